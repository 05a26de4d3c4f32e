-- A folder has the partition of some rows exactly where it has the files that the writer makes of it.
use Rattle.std.proofs.Common.{◌≡◌, ℕ, Bool, true, false, not, List, [], ◌∷◌, ◌++◌, length, take, map, cond, Some, refl, sym, ap, ◌∙◌, subst}
use Rattle.std.specs.Prelude.{All, filter, ◌==◌, ◌↔◌}
use Rattle.std.specs.List.{flat_map}
use Rattle.std.proofs.lemmas.Bool.{eqb-true}
use Rattle.std.proofs.lemmas.List.{append-nil}
use Rattle.std.proofs.lemmas.List.Elements.{All-nil, All-cons, All-head, All-tail, All-weaker, All-map}
use Rattle.mt_facts.proofs.Lists.{nil_from_test}
use Rattle.mt_types.specs.declared.ty.Ty.{Ty}
use Rattle.mt_types.specs.declared.value.Value.{Value}
use Rattle.mt_types.specs.Items.{item_bytes}
use Rattle.mt_fault.specs.declared.file.FileBytes.{FileBytes}
use Rattle.mt_table.specs.declared.definition.Table.{Table}
use Rattle.mt_defs.specs.Folder.{Folder}
use Rattle.mt_defs.specs.Metadata.{column_at}
use Rattle.mt_defs.specs.Partition.{IsMinmaxOf, HasMinmax, HasPartition, partition_bytes, partition_name, expression_column}
use Rattle.mt_defs.specs.Rows.{Row, cell, column_values}
use Rattle.mt_defs.specs.WrittenColumns.{file}
use Rattle.mt_defs.specs.WrittenPartition.{minmax_bytes, minmax_file, partition_files}
use Rattle.mt_meta.specs.Minmax.{is_less, is_greater, least_of, greatest_of}
use Rattle.mt_meta.specs.PartitionReading.{HasPartitionFiles}
use Rattle.mt_meta.proofs.BestLemmas.{best_some, least_is, greatest_is, least_same, greatest_same}
use Rattle.mt_meta.proofs.PartitionLemmas.{distinct, distinct_all, others}

-- ---- a minmax file

written_minmax : (ty : Ty) (values : List Value) (least greatest : Value) → least_of values ≡ least ∷ [] → greatest_of values ≡ greatest ∷ [] → minmax_bytes ty values ≡ item_bytes ty least ++ item_bytes ty greatest
written_minmax ty values least greatest e f =
    let one = ap (flat_map (item_bytes ty)) e ∙ append-nil (item_bytes ty least) in
    let two = ap (flat_map (item_bytes ty)) f ∙ append-nil (item_bytes ty greatest) in
    ap (λ (t : List ℕ). t ++ flat_map (item_bytes ty) (greatest_of values)) one ∙ ap (λ (t : List ℕ). item_bytes ty least ++ t) two

minmax_is : (ty : Ty) (v : Value) (vs : List Value) → IsMinmaxOf ty (v ∷ vs) (minmax_bytes ty (v ∷ vs))
minmax_is ty v vs =
    let least = best_some is_less v vs in
    let greatest = best_some is_greater v vs in
    (least.0, greatest.0, least_is (v ∷ vs) least.0 least.1, greatest_is (v ∷ vs) greatest.0 greatest.1, written_minmax ty (v ∷ vs) least.0 greatest.0 least.1 greatest.1)

minmax_only : (ty : Ty) (v : Value) (vs : List Value) (bytes : List ℕ) → IsMinmaxOf ty (v ∷ vs) bytes → bytes ≡ minmax_bytes ty (v ∷ vs)
minmax_only ty v vs bytes (low, high, is_low, is_high, e) =
    let least = best_some is_less v vs in
    let greatest = best_some is_greater v vs in
    let one = least_same (v ∷ vs) low least.0 is_low (least_is (v ∷ vs) least.0 least.1) in
    let two = greatest_same (v ∷ vs) high greatest.0 is_high (greatest_is (v ∷ vs) greatest.0 greatest.1) in
    e ∙ ap (λ w. item_bytes ty w ++ item_bytes ty high) one ∙ ap (λ w. item_bytes ty least.0 ++ item_bytes ty w) two ∙ sym (written_minmax ty (v ∷ vs) least.0 greatest.0 least.1 greatest.1)

-- the folder has the file that the writer makes
abbrev HasFile : Folder → FileBytes → Type 0
HasFile folder written = folder written.name ≡ Some written.bytes

minmax_read : (table : Table) (row : Row) (rows : List Row) (folder : Folder) (i : ℕ) → HasMinmax table (row ∷ rows) folder i → HasFile folder (minmax_file table (row ∷ rows) i)
minmax_read table row rows folder i (bytes, there, is) = there ∙ ap Some (minmax_only (column_at table.columns i).ty (cell row i) (column_values i rows) bytes is)

minmax_written : (table : Table) (row : Row) (rows : List Row) (folder : Folder) (i : ℕ) → HasFile folder (minmax_file table (row ∷ rows) i) → HasMinmax table (row ∷ rows) folder i
minmax_written table row rows folder i there = (minmax_bytes (column_at table.columns i).ty (column_values i (row ∷ rows)), there, minmax_is (column_at table.columns i).ty (cell row i) (column_values i rows))

-- ---- each column, and each column once

All-unmap : {X Y : Type 0} (P : Y → Type 0) (f : X → Y) (xs : List X) → All P (map f xs) → All (λ x. P (f x)) xs
All-unmap P f [] h = All-nil (λ x. P (f x))
All-unmap P f (x ∷ xs) h = All-cons (λ x. P (f x)) x xs (All-head P (f x) (map f xs) h) (All-unmap P f xs (All-tail P (f x) (map f xs) h))

unfilter_by : (P : ℕ → Type 0) (x z : ℕ) (zs : List ℕ) → P x → (b : Bool) → (x == z) ≡ b → All P (cond (not b) (z ∷ filter (others x) zs) (filter (others x) zs)) → (All P (filter (others x) zs) → All P zs) → All P (z ∷ zs)
unfilter_by P x z zs here true e h again = All-cons P z zs (subst P (eqb-true x z e) here) (again h)
unfilter_by P x z zs here false e h again = All-cons P z zs (All-head P z (filter (others x) zs) h) (again (All-tail P z (filter (others x) zs) h))

unfilter : (P : ℕ → Type 0) (x : ℕ) (zs : List ℕ) → P x → All P (filter (others x) zs) → All P zs
unfilter P x [] here h = All-nil P
unfilter P x (z ∷ zs) here h = unfilter_by P x z zs here (x == z) refl h (unfilter P x zs here)

all_of_distinct : (P : ℕ → Type 0) (xs : List ℕ) → All P (distinct xs) → All P xs
all_of_distinct P [] h = All-nil P
all_of_distinct P (x ∷ xs) h =
    let here = All-head P x (filter (others x) (distinct xs)) h in
    All-cons P x xs here (all_of_distinct P xs (unfilter P x (distinct xs) here (All-tail P x (filter (others x) (distinct xs)) h)))

-- ---- all files

abbrev key_of_table : Table → List ℕ
key_of_table table = map expression_column table.partition

-- the writer's files, where there is a partition key
abbrev files_of : Table → List Row → List FileBytes
files_of table rows = file partition_name (flat_map (partition_bytes table) (take 1 rows)) ∷ map (minmax_file table rows) (distinct (key_of_table table))

nil_is : {X : Type 0} (xs : List X) → (length xs == 0) ≡ false → xs ≡ [] → ⊥
nil_is [] e f = let e : true ≡ false = e in cc
nil_is (x ∷ xs) e f = let e : x ∷ xs ≡ [] = f in cc

read_by : (table : Table) (row : Row) (rows : List Row) (folder : Folder) (b : Bool) → (length table.partition == 0) ≡ b → HasPartition table (row ∷ rows) folder → HasPartitionFiles table (row ∷ rows) folder
read_by table row rows folder true e h =
    let none : partition_files table (row ∷ rows) ≡ [] = rw e refl in
    record { files = subst (All (HasFile folder)) (sym none) (All-nil (HasFile folder)); none = λ nil. h.values ∙ rw e refl }
read_by table row rows folder false e h =
    let some : partition_files table (row ∷ rows) ≡ files_of table (row ∷ rows) = rw e refl in
    let minmax = All-weaker (HasMinmax table (row ∷ rows) folder) (λ i. HasFile folder (minmax_file table (row ∷ rows) i)) (minmax_read table row rows folder) (key_of_table table) h.minmax in
    let all = All-map (HasFile folder) (minmax_file table (row ∷ rows)) (distinct (key_of_table table)) (distinct_all (λ i. HasFile folder (minmax_file table (row ∷ rows) i)) (key_of_table table) minmax) in
    record {
      files = subst (All (HasFile folder)) (sym some) (All-cons (HasFile folder) _ _ (h.values ∙ rw e refl) all);
      none = λ nil. absurd (nil_is table.partition e nil);
    }

written_by : (table : Table) (row : Row) (rows : List Row) (folder : Folder) (b : Bool) → (length table.partition == 0) ≡ b → HasPartitionFiles table (row ∷ rows) folder → HasPartition table (row ∷ rows) folder
written_by table row rows folder true e h =
    let nil = nil_from_test table.partition e in
    record {
      values = h.none nil ∙ rw e refl;
      minmax = subst (λ es. All (HasMinmax table (row ∷ rows) folder) (map expression_column es)) (sym nil) (All-nil (HasMinmax table (row ∷ rows) folder));
    }
written_by table row rows folder false e h =
    let some : partition_files table (row ∷ rows) ≡ files_of table (row ∷ rows) = rw e refl in
    let all = subst (All (HasFile folder)) some h.files in
    let minmax = All-unmap (HasFile folder) (minmax_file table (row ∷ rows)) (distinct (key_of_table table)) (All-tail (HasFile folder) _ _ all) in
    let each = all_of_distinct (λ i. HasFile folder (minmax_file table (row ∷ rows) i)) (key_of_table table) minmax in
    record {
      values = All-head (HasFile folder) _ _ all ∙ rw e refl;
      minmax = All-weaker (λ i. HasFile folder (minmax_file table (row ∷ rows) i)) (HasMinmax table (row ∷ rows) folder) (minmax_written table row rows folder) (key_of_table table) each;
    }

pub partition_law : (table : Table) (rows : List Row) (folder : Folder) → (rows ≡ [] → ⊥) → HasPartition table rows folder ↔ HasPartitionFiles table rows folder
partition_law table [] folder some = absurd (some refl)
partition_law table (row ∷ rows) folder some = (read_by table row rows folder (length table.partition == 0) refl, written_by table row rows folder (length table.partition == 0) refl)
