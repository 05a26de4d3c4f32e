-- The writer's partition files.
use Rattle.std.specs.Prelude.{ℕ, Bool, ◌==◌, if◌then◌else◌, List, [], ◌∷◌, ◌++◌, length, map, take}
use Rattle.std.specs.List.{flat_map}
use Rattle.std.specs.Ordering.{is_lt}
use Rattle.mt_types.specs.declared.ty.Ty.{Ty}
use Rattle.mt_types.specs.declared.value.Value.{Value}
use Rattle.mt_types.specs.Order.{value_cmp}
use Rattle.mt_types.specs.Items.{item_bytes}
use Rattle.mt_fault.specs.declared.file.FileBytes.{FileBytes}
use Rattle.mt_table.specs.declared.definition.Table.{Table}
use Rattle.mt_defs.specs.Lists.{distinct_by}
use Rattle.mt_defs.specs.Rows.{Row, column_values}
use Rattle.mt_defs.specs.Metadata.{column_at}
use Rattle.mt_defs.specs.Partition.{partition_bytes, partition_name, minmax_name, expression_column}
use Rattle.mt_defs.specs.WrittenColumns.{file}

-- the first value, unless the best of the others is better
abbrev pub better_of : (Value → Value → Bool) → Value → List Value → List Value
better_of is_better value [] = value ∷ []
better_of is_better value (best ∷ rest) = if is_better best value then best ∷ [] else value ∷ []

-- the best of some values, or nothing
abbrev pub best_of : (Value → Value → Bool) → List Value → List Value
best_of is_better [] = []
best_of is_better (value ∷ values) = better_of is_better value (best_of is_better values)

-- the least and then the greatest of some values
abbrev pub minmax_bytes : Ty → List Value → List ℕ
minmax_bytes ty values =
    flat_map (item_bytes ty) (best_of (λ v w. is_lt (value_cmp v w)) values) ++ flat_map (item_bytes ty) (best_of (λ v w. is_lt (value_cmp w v)) values)

-- the minmax file of a column
abbrev pub minmax_file : Table → List Row → ℕ → FileBytes
minmax_file table rows column_index = file (minmax_name table column_index) (minmax_bytes (column_at table.columns column_index).ty (column_values column_index rows))

-- partition.dat and the minmax file of each column of the partition key, or no file without such a key
abbrev pub partition_files : Table → List Row → List FileBytes
partition_files table rows =
    if length table.partition == 0 then []
    else file partition_name (flat_map (partition_bytes table) (take 1 rows)) ∷ map (minmax_file table rows) (distinct_by (λ i j. i == j) (map expression_column table.partition))
