-- The partition's files: their names differ, and a folder that has them has the partition.
use Rattle.std.proofs.Common.{◌≡◌, ◌≢◌, ℕ, ◌<◌, Bool, true, false, not, cond, ◌||◌, List, [], ◌∷◌, ◌++◌, length, map, take, get_or, refl, ap, sym, ◌∙◌, subst, arith, eqb}
use Rattle.std.specs.Prelude.{All, None, filter, codes, ◌==◌, nat_le, if◌then◌else◌}
use Rattle.std.specs.List.{list_all, filter_map, flat_map}
use Rattle.std.proofs.lemmas.Bool.{and_parts, eqb-true, eq-eqb}
use Rattle.std.proofs.lemmas.List.{append_cancel_left, append_cancel_right}
use Rattle.std.proofs.lemmas.List.Elements.{All-nil, All-cons, All-head, All-tail, All-weaker, filter_passes}
use Rattle.mt_facts.proofs.Lists.{each_passes, nil_from_test}
use Rattle.mt_fault.specs.declared.file.FileBytes.{FileBytes}
use Rattle.mt_table.specs.declared.column.Column.{Column}
use Rattle.mt_table.specs.declared.definition.Table.{Table}
use Rattle.mt_table.specs.declared.partition.PartExpr.{PartExpr}
use Rattle.mt_table.specs.declared.partition.PartExpr.TheVariants.{Plain, Month}
use Rattle.mt_table.specs.ColumnTypes.{is_key_type, is_date_type}
use Rattle.mt_table.specs.Kept.{keeps_partition, keeps_expression, plain_place, month_place}
use Rattle.mt_table.specs.Names.{places_differ}
use Rattle.mt_table.specs.declared.limits.TheConstants.{MAX_PARTITION}
use Rattle.mt_defs.specs.Lists.{distinct_by}
use Rattle.mt_defs.specs.Folder.{Folder}
use Rattle.mt_defs.specs.Rows.{Row, cell, column_values}
use Rattle.mt_defs.specs.FileNames.{file_name}
use Rattle.mt_defs.specs.Metadata.{column_at}
use Rattle.mt_defs.specs.Partition.{HasPartition, HasMinmax, IsMinmaxOf, partition_bytes, partition_name, minmax_name, expression_column}
use Rattle.mt_defs.specs.WrittenColumns.{file}
use Rattle.mt_defs.specs.WrittenPartition.{minmax_bytes, minmax_file, partition_files}
use Rattle.mt_skip.proofs.LawLemmas.{written_agree}
use Rattle.mt_table.specs.declared.skip.SkipKind.TheVariants.{Minmax}
use Rattle.mt_defs.proofs.ListLemmas.{All-distinct_by}
use Rattle.mt_law_written.proofs.LookupLemmas.{AreApart, last_of, last_append}
use Rattle.mt_law_written.proofs.ListLemmas.{All-mapped, All-of_map}
use Rattle.mt_law_written.proofs.NameLemmas.{has_slash, no_slash_appended, stem_without_slash, file_name_stem, file_name_injective}
use Rattle.mt_law_written.proofs.ApartLemmas.{EachLater, Differ, later_mapped, apart_each}
use Rattle.mt_law_written.proofs.DataNames.{ends_as_data}
use Rattle.mt_law_written.proofs.RuleLemmas.{place_of, names_at, later_kept}
use Rattle.mt_law_written.proofs.WideLemmas.{HasFile}

-- ---- columns of the key, each once

abbrev pub is_same : ℕ → ℕ → Bool
is_same i j = i == j

abbrev pub distinct : List ℕ → List ℕ
distinct = distinct_by is_same

distinct_differ : (xs : List ℕ) → Differ (distinct xs)
distinct_differ [] = tt
distinct_differ (x ∷ xs) =
    let other : ℕ → Bool = λ y. not (is_same x y) in (
      All-weaker (λ y. other y ≡ true) (λ y. x ≢ y) (λ y passes same. (let bad : false ≡ true = ap not (sym (eq-eqb x y same)) ∙ passes in cc)) (filter other (distinct xs)) (filter_passes other (distinct xs)),
      later_kept other (λ a b. a ≢ b) (distinct xs) (distinct_differ xs),
    )

-- what holds of each column once holds of each
back_by : (P : ℕ → Type 0) (x z : ℕ) (zs : List ℕ) → P x → (same : Bool) → is_same x z ≡ same → All P (cond (not same) (z ∷ filter (λ y. not (is_same x y)) zs) (filter (λ y. not (is_same x y)) zs))
    → (All P (filter (λ y. not (is_same x y)) zs) → All P zs) → All P (z ∷ zs)
back_by P x z zs here true e h again = All-cons P z zs (subst P (eqb-true x z e) here) (again h)
back_by P x z zs here false e h again = All-cons P z zs (All-head P z _ h) (again (All-tail P z _ h))

back : (P : ℕ → Type 0) (x : ℕ) (zs : List ℕ) → P x → All P (filter (λ y. not (is_same x y)) zs) → All P zs
back P x [] here h = All-nil P
back P x (z ∷ zs) here h = back_by P x z zs here (is_same x z) refl h (back P x zs here)

all_of_distinct : (P : ℕ → Type 0) (xs : List ℕ) → All P (distinct xs) → All P xs
all_of_distinct P [] h = All-nil P
all_of_distinct P (x ∷ xs) h =
    let here = All-head P x _ h in
    All-cons P x xs here (all_of_distinct P xs (back P x (distinct xs) here (All-tail P x _ h)))

-- ---- names

-- the columns of the partition key
abbrev pub key_columns : Table → List ℕ
key_columns table = map expression_column table.partition

expression_within : (columns : List Column) (expression : PartExpr) → keeps_expression columns expression ≡ true → expression_column expression < length columns
expression_within columns (Plain i) keeps = (place_of is_key_type columns i keeps).within
expression_within columns (Month i) keeps = (place_of is_date_type columns i keeps).within

pub key_within : (table : Table) → keeps_partition table.columns table.partition ≡ true → All (λ i. i < length table.columns) (key_columns table)
key_within table keeps =
    let one = and_parts (nat_le (length table.partition) MAX_PARTITION) _ keeps in
    let two = and_parts (places_differ (filter_map plain_place table.partition)) _ one.1 in
    let each = (and_parts (places_differ (filter_map month_place table.partition)) (list_all (keeps_expression table.columns) table.partition) two.1).1 in
    All-mapped (λ i. i < length table.columns) expression_column table.partition
    (All-weaker (λ e. keeps_expression table.columns e ≡ true) (λ e. expression_column e < length table.columns) (expression_within table.columns) table.partition (each_passes (keeps_expression table.columns) table.partition each))

-- the second byte is that of columns.txt, count.txt or primary.idx
abbrev pub is_listing : List ℕ → Bool
is_listing name = eqb (get_or name 1 0) 111 || eqb (get_or name 1 0) 114

-- the first byte is that of the files of skip indexes
abbrev pub begins_as_skip : List ℕ → Bool
begins_as_skip name = eqb (get_or name 0 0) 115

-- a name of a partition's file
pub record IsPartitionName (name : List ℕ) : Type 0 where
  pub no_slash : has_slash name ≡ false
  pub ends : ends_as_data name ≡ false
  pub listing : is_listing name ≡ false
  pub begins : begins_as_skip name ≡ false

abbrev pub OfPartition : FileBytes → Type 0
OfPartition file = IsPartitionName file.name

minmax_named : (table : Table) (i : ℕ) → IsPartitionName (minmax_name table i)
minmax_named table i =
    let name : List ℕ = file_name (column_at table.columns i).name in
    let last : last_of (minmax_name table i) ≡ 120 = last_append (codes "minmax_" ++ name) 46 (codes "idx") in
    record {
      no_slash = no_slash_appended (codes "minmax_" ++ name) (codes ".idx") (no_slash_appended (codes "minmax_") name refl (stem_without_slash name (file_name_stem (column_at table.columns i).name))) refl;
      ends = ap (λ l. eqb l 110 || (eqb l 50 || eqb l 51)) last;
      listing = refl;
      begins = refl;
    }

-- the files where there is a partition key
abbrev pub key_files : Table → List Row → List FileBytes
key_files table rows = file partition_name (flat_map (partition_bytes table) (take 1 rows)) ∷ map (minmax_file table rows) (distinct (key_columns table))

pub files_by : (table : Table) (rows : List Row) (P : List FileBytes → Type 0) → P [] → P (key_files table rows) → P (partition_files table rows)
files_by table rows P none some = by (length table.partition == 0)
  where
    by : (b : Bool) → P (if b then [] else key_files table rows)
    by true = none
    by false = some

pub partition_named : (table : Table) (rows : List Row) → All OfPartition (partition_files table rows)
partition_named table rows =
    files_by table rows (All OfPartition) (All-nil OfPartition)
    (All-cons OfPartition (file partition_name (flat_map (partition_bytes table) (take 1 rows))) (map (minmax_file table rows) (distinct (key_columns table))) (record { no_slash = refl; ends = refl; listing = refl; begins = refl })
    (All-mapped OfPartition (minmax_file table rows) (distinct (key_columns table)) (λ k d inside. minmax_named table (get_or (distinct (key_columns table)) k d))))

minmax_apart : (table : Table) (i j : ℕ) → EachLater (λ a b. a.name ≢ b.name) table.columns → i < length table.columns → j < length table.columns → i ≢ j → minmax_name table i ≢ minmax_name table j
minmax_apart table i j own in_i in_j other same =
    let name : ℕ → List ℕ = λ i. (column_at table.columns i).name in
    names_at table.columns own i j in_i in_j other (
    file_name_injective (name i) (name j) (
    append_cancel_left (codes "minmax_") (file_name (name i)) (file_name (name j)) (append_cancel_right (codes "minmax_" ++ file_name (name i)) (codes "minmax_" ++ file_name (name j)) (codes ".idx") same)))

minmax_later : (table : Table) (places : List ℕ) → EachLater (λ a b. a.name ≢ b.name) table.columns → All (λ i. i < length table.columns) places → Differ places → EachLater (λ i j. minmax_name table i ≢ minmax_name table j) places
minmax_later table [] own within differ = tt
minmax_later table (i ∷ places) own within differ =
    let Within : ℕ → Type 0 = λ i. i < length table.columns in
    let rest = All-tail Within i places within in
    (λ k d inside. minmax_apart table i (get_or places k d) own (All-head Within i places within) (rest k d inside) (differ.0 k d inside), minmax_later table places own rest differ.1)

pub partition_apart : (table : Table) (rows : List Row) → EachLater (λ a b. a.name ≢ b.name) table.columns → keeps_partition table.columns table.partition ≡ true → AreApart (partition_files table rows)
partition_apart table rows own keeps =
    let places : List ℕ = distinct (key_columns table) in
    let within : All (λ i. i < length table.columns) places = All-distinct_by (λ i. i < length table.columns) is_same (key_columns table) (key_within table keeps) in
    let first : All (λ f. partition_name ≢ f.name) (map (minmax_file table rows) places) =
    All-mapped (λ f. partition_name ≢ f.name) (minmax_file table rows) places (λ k d inside same. (let bad : 112 ≡ 109 = ap (λ l. get_or l 0 0) same in omega (arith, bad))) in
    files_by table rows AreApart tt (apart_each (key_files table rows) (
      first,
      later_mapped (λ f g. f.name ≢ g.name) (minmax_file table rows) places (minmax_later table places own within (distinct_differ (key_columns table))),
    ))

-- ---- the partition

minmax_is : (table : Table) (i : ℕ) (rows : List Row) → rows ≢ [] → IsMinmaxOf (column_at table.columns i).ty (column_values i rows) (minmax_bytes (column_at table.columns i).ty (column_values i rows))
minmax_is table i [] some = absurd (some refl)
minmax_is table i (row ∷ rows) some = written_agree Minmax (column_at table.columns i).ty (column_values i (row ∷ rows)) (λ none. let bad : cell row i ∷ column_values i rows ≡ [] = none in cc)

held_by : (table : Table) (rows : List Row) (folder : Folder) (none : Bool) → (length table.partition == 0) ≡ none → rows ≢ [] → (none ≡ true → folder partition_name ≡ None)
    → All (HasFile folder) (if none then [] else key_files table rows) → HasPartition table rows folder
held_by table rows folder true e some absent files = record {
  values = absent refl ∙ rw e refl;
  minmax = subst (λ es. All (HasMinmax table rows folder) (map expression_column es)) (sym (nil_from_test table.partition e)) (All-nil (HasMinmax table rows folder));
}
held_by table rows folder false e some absent files =
    let first : FileBytes = file partition_name (flat_map (partition_bytes table) (take 1 rows)) in
    let minmax : All (λ i. HasFile folder (minmax_file table rows i)) (distinct (key_columns table)) =
    All-of_map (HasFile folder) (minmax_file table rows) (distinct (key_columns table)) (All-tail (HasFile folder) first (map (minmax_file table rows) (distinct (key_columns table))) files) in
    record {
      values = All-head (HasFile folder) first (map (minmax_file table rows) (distinct (key_columns table))) files ∙ rw e refl;
      minmax =
          all_of_distinct (HasMinmax table rows folder) (key_columns table)
          (All-weaker (λ i. HasFile folder (minmax_file table rows i)) (HasMinmax table rows folder) (λ i there.
          (minmax_bytes (column_at table.columns i).ty (column_values i rows), there, minmax_is table i rows some)) (distinct (key_columns table)) minmax);
    }

-- a folder that has the writer's files has the partition
pub partition_held : (table : Table) (rows : List Row) (folder : Folder) → rows ≢ [] → ((length table.partition == 0) ≡ true → folder partition_name ≡ None) → All (HasFile folder) (partition_files table rows) → HasPartition table rows folder
partition_held table rows folder some absent files = held_by table rows folder (length table.partition == 0) refl some absent files
