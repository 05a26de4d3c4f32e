-- The columns of a partition key, each once.
use Rattle.std.proofs.Common.{◌≡◌, ℕ, ◌+◌, ◌<◌, ◌≤◌, Bool, true, false, List, [], ◌∷◌, ◌++◌, length, map, drop, refl, ap, sym, ◌∙◌, get_or}
use Rattle.std.specs.Prelude.{◌==◌, cond, if◌then◌else◌}
use Rattle.std.specs.List.{list_any}
use Rattle.std.proofs.lemmas.List.{append-nil, append_assoc}
use Rattle.mt_facts.proofs.Lists.{drop_next}
use Rattle.mt_table.specs.declared.definition.Table.{Table}
use Rattle.mt_table.specs.declared.partition.PartExpr.{PartExpr}
use Rattle.mt_defs.specs.Part.{partition_names}
use Rattle.mt_defs.specs.Partition.{expression_column, minmax_name, partition_name}
use Rattle.mt_files.specs.OwnNames.{each_once, last_use, partition_columns, partition_file_names}
use Rattle.mt_files.proofs.LoopLemmas.{at_end, nonempty}

-- the files of the columns of some expressions
abbrev files_left : Table → List PartExpr → List (List ℕ)
files_left table partition = map (minmax_name table) (each_once (map expression_column partition))

-- what is left is to be appended
abbrev pub Left : Table → List (List ℕ) → List (List ℕ) → ℕ → Type 0
Left table initial names i = names ++ files_left table (drop i table.partition) ≡ initial ++ files_left table table.partition

one_use : (table : Table) (column : ℕ) (later : List ℕ) (b : Bool) → (cond b [] (minmax_name table column ∷ [])) ++ map (minmax_name table) (each_once later) ≡ map (minmax_name table) (cond b (each_once later) (column ∷ each_once later))
one_use table column later true = refl
one_use table column later false = refl

pub left_next : (table : Table) (initial names new : List (List ℕ)) (i : ℕ) (expression : PartExpr) (column : ℕ) (later : List PartExpr) → i < length table.partition → expression ≡ get_or table.partition i expression → column ≡ expression_column expression
    → later ≡ drop (i + 1) table.partition → new ≡ names ++ last_use table column (map expression_column later) → Left table initial names i → Left table initial new (i + 1)
left_next table initial names new i expression column later inside at is rest more left =
    let after = drop (i + 1) table.partition in
    let columns = map expression_column after in
    ap (λ (ns : List (List ℕ)). ns ++ files_left table after) (more ∙ ap (λ (es : List PartExpr). names ++ last_use table column (map expression_column es)) rest ∙ ap (λ k. names ++ last_use table k columns) is)
    ∙ append_assoc names (last_use table (expression_column expression) columns) (files_left table after)
    ∙ ap (λ (ns : List (List ℕ)). names ++ ns) (one_use table (expression_column expression) columns (list_any (λ j. j == expression_column expression) columns))
    ∙ ap (λ (es : List PartExpr). names ++ files_left table es) (sym (drop_next table.partition i expression inside at))
    ∙ left

pub none_left : (table : Table) (initial names : List (List ℕ)) (i : ℕ) → length table.partition ≤ i → Left table initial names i → names ≡ initial ++ files_left table table.partition
none_left table initial names i over left = sym (append-nil names) ∙ ap (λ (es : List PartExpr). names ++ files_left table es) (sym (at_end table.partition i over)) ∙ left

-- ---- a key

pub files_are : (table : Table) → (table.partition ≡ [] → ⊥) → partition_file_names table ≡ partition_name ∷ map (minmax_name table) (partition_columns table)
files_are table some = ap (λ b. if b then [] else partition_name ∷ map (minmax_name table) (partition_columns table)) (nonempty table.partition some)

-- ---- the names

pub partition_names_are : (table : Table) → (table.partition ≡ [] → ⊥) → partition_names table ≡ partition_name ∷ map (λ expression. minmax_name table (expression_column expression)) table.partition
partition_names_are table some = ap (λ (b : Bool). if b then [] else partition_name ∷ map (λ expression. minmax_name table (expression_column expression)) table.partition) (nonempty table.partition some)
