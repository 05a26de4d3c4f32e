-- The folder of a definition, of the part itself or of a projection: what its rows and granules are, or its first fault,
-- docs/FORMAT.md, "The first fault".
use Rattle.std.specs.Prelude.{ℕ, nat_le, if◌then◌else◌, List, map, take, slice_index_or, Result, Ok}
use Rattle.mt_fault.specs.declared.fault.Why.TheVariants as why
use Rattle.mt_fault.specs.declared.fault.Fault.{Fault}
use Rattle.mt_types.specs.Steps.{◌>>=◌, require}
use Rattle.mt_table.specs.declared.column.Column.{Column}
use Rattle.mt_table.specs.declared.definition.PartDef.{PartDef}
use Rattle.mt_table.specs.declared.limits.TheConstants.{MAX_CELLS}
use Rattle.mt_defs.specs.Folder.{Folder}
use Rattle.mt_defs.specs.Rows.{Row, cell_count}
use Rattle.mt_defs.specs.FileNames.{file_name, data_name}
use Rattle.mt_defs.specs.Metadata.{column_at, count_name}
use Rattle.mt_defs.specs.Compact.{compact_data_name}
use Rattle.mt_defs.specs.PrimaryIndex.{index_name, index_rows, key_bytes}
use Rattle.mt_defs.specs.Part.{is_compact}
use Rattle.mt_definition.specs.declared.accepted.Accepted.{Accepted}
use Rattle.mt_files.specs.PartTexts.{order_reading, row_count_reading}
use Rattle.mt_fault.specs.Faults.{file_fault, granule_fault}
use Rattle.mt_granules.specs.FileFaults.{file_reading}
use Rattle.mt_files.specs.Faults.{none_found}
use Rattle.mt_definition.specs.RowsReading.{whole_row, granule_of, first_fall, keys_reading}
use Rattle.mt_definition.specs.DataReading.{data_reading}

-- the rows that were read of the listed columns, each with all columns in the definition's order
abbrev pub in_definition_order : List Column → List ℕ → List Row × List ℕ → Accepted
in_definition_order columns order (rows, granules) = record { rows = map (whole_row columns order) rows; granules = granules }

-- columns.txt, count.txt, and the data and marks of the listed columns (1 to 3)
unfoldable pub stored_reading : PartDef → Folder → Result Accepted Fault
stored_reading definition folder = do
  order ← order_reading definition folder
  count ← row_count_reading definition folder
  stored ← data_reading folder count (map (column_at definition.columns) order)
  Ok (in_definition_order definition.columns order stored)

-- the limit on cells (4)
abbrev pub cells_reading : PartDef → Accepted → Result Unit Fault
cells_reading definition accepted = require (nat_le (cell_count definition.columns accepted.rows) MAX_CELLS) (file_fault count_name why.TooLong)

-- the file that is named where rows aren't in order: that of the first sort column's items
abbrev pub sort_file : PartDef → Folder → List ℕ
sort_file definition folder =
    if is_compact folder then compact_data_name
    else data_name (file_name (column_at definition.columns (slice_index_or definition.sort 0 0)).name)

-- the rows are in order (5)
abbrev pub sorted_reading : PartDef → Folder → Accepted → Result Unit Fault
sorted_reading definition folder accepted =
    none_found (first_fall definition.sort accepted.rows) (λ row. granule_fault (sort_file definition folder) (granule_of accepted.granules row) why.Sorted)

-- the primary keys of the first row of each granule, and of the last row
abbrev pub index_keys : PartDef → Accepted → List (List ℕ)
index_keys definition accepted = map (key_bytes definition.columns (take definition.primary definition.sort)) (index_rows accepted.rows accepted.granules)

-- primary.idx: these keys (6)
abbrev pub index_reading : PartDef → Folder → Accepted → Result Unit Fault
index_reading definition folder accepted = do
  bytes ← file_reading folder index_name
  keys_reading 0 (index_keys definition accepted) bytes

-- the rows and granules of a definition's folder, or the first fault (1 to 6)
unfoldable pub definition_reading : PartDef → Folder → Result Accepted Fault
definition_reading definition folder = do
  accepted ← stored_reading definition folder
  _ ← cells_reading definition accepted
  _ ← sorted_reading definition folder accepted
  _ ← index_reading definition folder accepted
  Ok accepted
