-- The files of a partition are bytes, where the rows fit.
use Rattle.std.proofs.Common.{◌≡◌, ℕ, ◌<◌, Bool, true, false, List, [], ◌∷◌, length, map, take, refl, get_or}
use Rattle.std.specs.Prelude.{All, ◌==◌, not, if◌then◌else◌}
use Rattle.std.specs.Int.{w32}
use Rattle.std.specs.List.{flat_map}
use Rattle.std.specs.Ordering.{is_lt}
use Rattle.std.proofs.lemmas.List.Elements.{All-nil, All-cons, All-head, All-tail, All-append, All-filter, All-map, All-take, All-weaker}
use Rattle.mt_types.specs.declared.ty.Ty.{Ty}
use Rattle.mt_types.specs.declared.value.Value.{Value, out-Value}
use Rattle.mt_types.specs.Fits.{fits_of}
use Rattle.mt_types.specs.Items.{item_bytes}
use Rattle.mt_types.specs.Order.{value_cmp}
use Rattle.mt_fault.specs.declared.file.FileBytes.{FileBytes}
use Rattle.mt_table.specs.declared.column.Column.{Column}
use Rattle.mt_table.specs.declared.definition.Table.{Table}
use Rattle.mt_table.specs.declared.partition.PartExpr.{PartExpr}
use Rattle.mt_table.specs.declared.partition.PartExpr.TheVariants.{Plain, Month}
use Rattle.mt_defs.specs.Lists.{AreBytes, distinct_by}
use Rattle.mt_defs.specs.Metadata.{column_at, no_column}
use Rattle.mt_defs.specs.Partition.{expression_bytes, expression_column, month_at, partition_bytes, partition_name}
use Rattle.mt_defs.specs.Rows.{Row, RowFits, cell, column_values}
use Rattle.mt_defs.specs.WrittenColumns.{file}
use Rattle.mt_defs.specs.WrittenPartition.{best_of, better_of, minmax_bytes, minmax_file, partition_files}
use Rattle.mt_defs.proofs.RowLemmas.{cell_fits}
use Rattle.mt_defs.proofs.ListLemmas.{flat_bytes}
use Rattle.mt_meta.specs.PartitionKeys.{ArePartitionKeys, IsKeyExpression}
use Rattle.mt_item.proofs.ItemBytes.{item_is_bytes, number_bytes, IsByte}
use Rattle.mt_meta.proofs.PartitionLemmas.{expression_known}

abbrev pub HasBytes : FileBytes → Type 0
HasBytes file = AreBytes file.bytes

-- ---- partition.dat

expression_is_bytes : (columns : List Column) (row : Row) (expression : PartExpr) → RowFits columns row → IsKeyExpression columns expression → AreBytes (expression_bytes columns row expression)
expression_is_bytes columns row (Plain i) fits is = item_is_bytes (column_at columns i).ty (cell row i) (cell_fits columns row i no_column fits is.0)
expression_is_bytes columns row (Month i) fits is = number_bytes w32 (month_at (out-Value (cell row i)))

values_are_bytes : (table : Table) (row : Row) → ArePartitionKeys table.columns table.partition → RowFits table.columns row → AreBytes (partition_bytes table row)
values_are_bytes table row keys fits =
    flat_bytes (expression_bytes table.columns row) table.partition
    (All-weaker (IsKeyExpression table.columns) (λ e. AreBytes (expression_bytes table.columns row e)) (λ e is. expression_is_bytes table.columns row e fits is) table.partition keys)

-- ---- the minmax files

better_all : (P : Value → Type 0) (is_better : Value → Value → Bool) (value : Value) (others : List Value) → P value → All P others → All P (better_of is_better value others)
better_all P is_better value [] holds all = All-cons P value [] holds (All-nil P)
better_all P is_better value (best ∷ rest) holds all = by (is_better best value)
  where
    by : (b : Bool) → All P (if b then best ∷ [] else value ∷ [])
    by true = All-cons P best [] (All-head P best rest all) (All-nil P)
    by false = All-cons P value [] holds (All-nil P)

best_all : (P : Value → Type 0) (is_better : Value → Value → Bool) (values : List Value) → All P values → All P (best_of is_better values)
best_all P is_better [] all = All-nil P
best_all P is_better (value ∷ values) all = better_all P is_better value (best_of is_better values) (All-head P value values all) (best_all P is_better values (All-tail P value values all))

extremes_are_bytes : (ty : Ty) (values : List Value) → All (λ value. fits_of ty value ≡ true) values → AreBytes (minmax_bytes ty values)
extremes_are_bytes ty values fit =
    let items : All (λ value. AreBytes (item_bytes ty value)) values = All-weaker (λ value. fits_of ty value ≡ true) (λ value. AreBytes (item_bytes ty value)) (λ value fits. item_is_bytes ty value fits) values fit in
    let least : List Value = best_of (λ v w. is_lt (value_cmp v w)) values in
    let greatest : List Value = best_of (λ v w. is_lt (value_cmp w v)) values in
    All-append IsByte (flat_map (item_bytes ty) least) (flat_map (item_bytes ty) greatest)
    (flat_bytes (item_bytes ty) least (best_all (λ value. AreBytes (item_bytes ty value)) (λ v w. is_lt (value_cmp v w)) values items))
    (flat_bytes (item_bytes ty) greatest (best_all (λ value. AreBytes (item_bytes ty value)) (λ v w. is_lt (value_cmp w v)) values items))

minmax_is_bytes : (table : Table) (rows : List Row) (i : ℕ) → All (RowFits table.columns) rows → i < length table.columns → HasBytes (minmax_file table rows i)
minmax_is_bytes table rows i fit inside =
    let ty : Ty = (column_at table.columns i).ty in
    extremes_are_bytes ty (column_values i rows)
    (All-map (λ value. fits_of ty value ≡ true) (λ (row : Row). cell row i) rows
    (All-weaker (RowFits table.columns) (λ row. fits_of ty (cell row i) ≡ true) (λ row fits. cell_fits table.columns row i no_column fits inside) rows fit))

-- ---- all of them

distinct_all : (P : ℕ → Type 0) (xs : List ℕ) → All P xs → All P (distinct_by (λ i j. i == j) xs)
distinct_all P [] all = All-nil P
distinct_all P (x ∷ xs) all =
    let later : List ℕ = distinct_by (λ i j. i == j) xs in
    All-cons P x _ (All-head P x xs all) (All-filter (λ y. not (x == y)) P later (distinct_all P xs (All-tail P x xs all)))

pub partition_are_bytes : (table : Table) (rows : List Row) → ArePartitionKeys table.columns table.partition → All (RowFits table.columns) rows → All (λ file. AreBytes file.bytes) (partition_files table rows)
partition_are_bytes table rows keys fit = by (length table.partition == 0)
  where
    first : List Row
    first = take 1 rows

    places : List ℕ
    places = distinct_by (λ i j. i == j) (map expression_column table.partition)

    inside : All (λ i. i < length table.columns) places
    inside =
        distinct_all (λ i. i < length table.columns) (map expression_column table.partition)
        (All-map (λ i. i < length table.columns) expression_column table.partition
        (All-weaker (IsKeyExpression table.columns) (λ e. expression_column e < length table.columns) (expression_known table.columns) table.partition keys))

    by : (b : Bool) → All HasBytes (if b then [] else file partition_name (flat_map (partition_bytes table) first) ∷ map (minmax_file table rows) places)
    by true = All-nil HasBytes
    by false =
        All-cons HasBytes (file partition_name (flat_map (partition_bytes table) first)) (map (minmax_file table rows) places)
        (flat_bytes (partition_bytes table) first (All-weaker (RowFits table.columns) (λ row. AreBytes (partition_bytes table row)) (λ row fits. values_are_bytes table row keys fits) first (All-take (RowFits table.columns) 1 rows fit)))
        (All-map HasBytes (minmax_file table rows) places (All-weaker (λ i. i < length table.columns) (λ i. HasBytes (minmax_file table rows i)) (λ i within. minmax_is_bytes table rows i fit within) places inside))
