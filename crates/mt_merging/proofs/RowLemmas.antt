-- The rows of several inputs.
use Rattle.std.proofs.Common.{◌≡◌, ◌≢◌, ◌+◌, ◌≤◌, Bool, true, false, List, [], ◌∷◌, ◌++◌, length, All, Ok, Err, refl, sym, ap, ◌∙◌, arith}
use Rattle.std.specs.Prelude.{◌↔◌, Some, None, slice_get}
use Rattle.std.specs.List.Sorted.{IsSorted}
use Rattle.std.specs.Str.{bytes_eq}
use Rattle.std.proofs.lemmas.List.{append-nil}
use Rattle.std.proofs.lemmas.List.Concat.{flat_map-append}
use Rattle.std.proofs.lemmas.List.Elements.{All-nil, All-head, All-tail, All-append}
use Rattle.std.proofs.lemmas.Slice.Eq.{bytes_eq-Decides}
use Rattle.mt_table.specs.declared.definition.Table.{Table}
use Rattle.mt_table.specs.declared.limits.TheConstants.{MAX_CELLS}
use Rattle.mt_defs.specs.Partition.{HaveOnePartition, partition_bytes}
use Rattle.mt_defs.specs.Rows.{Row, RowFits, cell_count, key_cmp}
use Rattle.mt_defs.specs.Sorting.{merged_rows}
use Rattle.mt_defs.proofs.Sorted.{All-sorted_rows, IsSorted-sorted_rows, cell_count-sorted_rows, some_sorted_rows}
use Rattle.mt_defs.proofs.PartitionLemmas.{as_first, one_for_all, sorted_one}
use Rattle.mt_command.specs.declared.status.Status.TheVariants.{MixedPartitions}
use Rattle.mt_merging.specs.Inputs.{AreInputs, all_rows, share_partition, inputs_partition}

-- ---- all rows

pub all_rows_push : (read : List (List Row)) (rows : List Row) → all_rows (read ++ rows ∷ []) ≡ all_rows read ++ rows
all_rows_push read rows = flat_map-append (λ input. input) read (rows ∷ []) ∙ ap (λ (more : List Row). all_rows read ++ more) (append-nil rows)

pub All-all_rows : (P : Row → Type 0) (read : List (List Row)) → All (λ rows. All P rows) read → All P (all_rows read)
All-all_rows P [] all = All-nil P
All-all_rows P (rows ∷ read) all =
    All-append P rows (all_rows read) (All-head (λ input. All P input) rows read all) (All-all_rows P read (All-tail (λ input. All P input) rows read all))

pub some_all_rows : (read : List (List Row)) → All (λ rows. rows ≢ []) read → read ≢ [] → all_rows read ≢ []
some_all_rows [] some there none = there refl
some_all_rows ([] ∷ read) some there none = All-head (λ (rows : List Row). rows ≢ []) [] read some refl
some_all_rows ((row ∷ rows) ∷ read) some there none = cc

-- ---- partitions

joined_rows : (table : Table) (a b : Row) (xs ys : List Row) → HaveOnePartition table (a ∷ xs) → HaveOnePartition table (b ∷ ys) → partition_bytes table a ≡ partition_bytes table b → HaveOnePartition table ((a ∷ xs) ++ b ∷ ys)
joined_rows table a b xs ys one other same =
    let P : Row → Type 0 = λ row. partition_bytes table a ≡ partition_bytes table row in
    one_for_all table a ((a ∷ xs) ++ b ∷ ys)
    (All-append P (a ∷ xs) (b ∷ ys) (as_first table a xs one) (λ k d h. same ∙ as_first table b ys other k d h))

-- the test of two inputs, passed
pub together : (table : Table) (first rows : List Row) (read : List (List Row)) (same : Bool) → share_partition table first rows ≡ same → inputs_partition table (first ∷ read) rows ≡ Ok tt → same ≡ true
together table first rows read true is passed = refl
together table first rows read false is passed = let never : inputs_partition table (first ∷ read) rows ≡ Err (MixedPartitions (length (first ∷ read) + 1)) = rw is refl in cc

-- an input of the first one's partition
pub joined_one : (table : Table) (read : List (List Row)) (rows : List Row) → All (λ input. input ≢ []) read → rows ≢ [] → HaveOnePartition table (all_rows read) → HaveOnePartition table rows → inputs_partition table read rows ≡ Ok tt
    → HaveOnePartition table (all_rows read ++ rows)
joined_one table [] rows some there one other passed = other
joined_one table ([] ∷ read) rows some there one other passed = absurd (All-head (λ (input : List Row). input ≢ []) [] read some refl)
joined_one table ((a ∷ xs) ∷ read) [] some there one other passed = absurd (there refl)
joined_one table ((a ∷ xs) ∷ read) (b ∷ ys) some there one other passed =
    let test = together table (a ∷ xs) (b ∷ ys) read (share_partition table (a ∷ xs) (b ∷ ys)) refl passed in
    joined_rows table a b (xs ++ all_rows read) ys one other ((bytes_eq-Decides (partition_bytes table a) (partition_bytes table b)).0 test)

-- the first row of a list
first_is : (a : Row) (rows : List Row) → Some a ≡ slice_get rows 0 → (rest : List Row) × (rows ≡ a ∷ rest)
first_is a [] e = let none : Some a ≡ None = e in cc
first_is a (row ∷ rows) e = let some : Some a ≡ Some row = e in let same : a ≡ row = cc in (rows, ap (λ (r : Row). r ∷ rows) (sym same))

-- what a comparison of two rows says
same_test : (table : Table) (a b : Row) (same : Bool) → (same ≡ true) ↔ (partition_bytes table a ≡ partition_bytes table b) → same ≡ bytes_eq (partition_bytes table a) (partition_bytes table b)
same_test table a b true both = sym ((bytes_eq-Decides (partition_bytes table a) (partition_bytes table b)).1 (both.0 refl))
same_test table a b false both = sym (apart (bytes_eq (partition_bytes table a) (partition_bytes table b)) refl)
  where
    apart : (eq : Bool) → bytes_eq (partition_bytes table a) (partition_bytes table b) ≡ eq → eq ≡ false
    apart false e = refl
    apart true e = let yes = both.1 ((bytes_eq-Decides (partition_bytes table a) (partition_bytes table b)).0 e) in cc

pub together_is : (table : Table) (a b : Row) (one other : List Row) (same : Bool) → Some a ≡ slice_get one 0 → Some b ≡ slice_get other 0 → (same ≡ true) ↔ (partition_bytes table a ≡ partition_bytes table b)
    → same ≡ share_partition table one other
together_is table a b one other same first second both =
    let left = first_is a one first in
    let right = first_is b other second in
    same_test table a b same both ∙ sym (ap (λ (rows : List Row). share_partition table rows other) left.1 ∙ ap (share_partition table (a ∷ left.0)) right.1)

-- ---- in key order

pub merged_some : (table : Table) (read : List (List Row)) → AreInputs table read → read ≢ [] → merged_rows table.sort read ≢ []
merged_some table read are there = some_sorted_rows table.sort (all_rows read) (some_all_rows read are.some there)

pub merged_fit : (table : Table) (read : List (List Row)) → AreInputs table read → All (RowFits table.columns) (merged_rows table.sort read)
merged_fit table read are = All-sorted_rows (RowFits table.columns) table.sort (all_rows read) (All-all_rows (RowFits table.columns) read are.fit)

pub merged_ordered : (table : Table) (read : List (List Row)) → IsSorted (key_cmp table.sort) (merged_rows table.sort read)
merged_ordered table read = IsSorted-sorted_rows table.sort (all_rows read)

pub merged_cells : (table : Table) (read : List (List Row)) → AreInputs table read → cell_count table.columns (merged_rows table.sort read) ≤ MAX_CELLS
merged_cells table read are =
    let same = cell_count-sorted_rows table.columns table.sort (all_rows read) in
    let few = are.few_cells in
    omega (arith, same, few)

pub merged_one : (table : Table) (read : List (List Row)) → AreInputs table read → HaveOnePartition table (merged_rows table.sort read)
merged_one table read are = sorted_one table (all_rows read) are.one_partition
