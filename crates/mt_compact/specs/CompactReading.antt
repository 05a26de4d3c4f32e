-- The rows of the two files of a Compact part, or their first fault: docs/FORMAT.md, "Compact parts" and "The first
-- fault" (ClickHouse: MergeTreeReaderCompact).
use Rattle.std.specs.Prelude.{ℕ, ◌+◌, ◌*◌, List, [], length, map, slice_index_or, Ok}
use Rattle.std.specs.List.{enumerate_from}
use Rattle.mt_types.specs.declared.value.Value.{Value}
use Rattle.mt_types.specs.Steps.{◌>>=◌, require}
use Rattle.mt_table.specs.declared.column.Column.{Column}
use Rattle.mt_item.specs.declared.fault.CodecWhy.{CodecWhy}
use Rattle.mt_fault.specs.declared.fault.Fault.{Fault}
use Rattle.mt_fault.specs.declared.fault.Why.TheVariants as why
use Rattle.mt_defs.specs.Folder.{Folder}
use Rattle.mt_defs.specs.Rows.{Row}
use Rattle.mt_defs.specs.Compact.{compact_data_name, compact_marks_name}
use Rattle.mt_codec.specs.ColumnReading.{front_reading, is_empty}
use Rattle.mt_fault.specs.Faults.{Judged, blame, granule_fault}
use Rattle.mt_granules.specs.FileFaults.{codec_why, in_order}
use Rattle.mt_granules.specs.PayloadReading.{GranulePayloads, granules_reading}
use Rattle.mt_granules.specs.ColumnRows.{all_values, rows_of}

-- the fault of a column's values in a granule names the data file
abbrev pub compact_value_fault : (granule : ℕ) → ℕ × (ℕ × CodecWhy) → Fault
compact_value_fault granule (stream, (item, reason)) = granule_fault compact_data_name granule (codec_why reason)

-- a column's values in a granule of so many rows, of its payload there: its substreams follow each other, and
-- nothing is left (3.8)
abbrev pub compact_payload_reading : Column → (granule count : ℕ) → List ℕ → Judged (List Value)
compact_payload_reading column granule count payload = do
  read ← blame (compact_value_fault granule) (front_reading column.ty count payload)
  _ ← require (is_empty read.1) (granule_fault compact_data_name granule why.Over)
  Ok read.0

-- the same of the column of an index, of all columns' payloads in the order of their marks
abbrev pub compact_granule_reading : Column → (column_index width : ℕ) → List (List ℕ) → ℕ × ℕ → Judged (List Value)
compact_granule_reading column column_index width payloads (granule, count) =
    compact_payload_reading column granule count (slice_index_or payloads (granule * width + column_index) [])

-- a column's values in each granule, where there are so many columns
abbrev pub compact_column_reading : (width : ℕ) → GranulePayloads → ℕ × Column → Judged (List (List Value))
compact_column_reading width read (column_index, column) = in_order (compact_granule_reading column column_index width read.payloads) (enumerate_from 0 read.granules)

-- the rows of these columns, so many, whose payloads these are
abbrev pub compact_rows_reading : GranulePayloads → (count : ℕ) → List Column → Judged (List Row)
compact_rows_reading read count columns = in_order (compact_column_reading (length columns) read) (enumerate_from 0 columns) >>= λ values. Ok (rows_of count (map all_values values))

-- the rows of these columns, so many, and their granules (3.1 to 3.5, 3.8)
abbrev pub compact_reading : Folder → (count : ℕ) → List Column → Judged (List Row × List ℕ)
compact_reading folder count columns = do
  read ← granules_reading folder count compact_data_name compact_marks_name (length columns)
  rows ← compact_rows_reading read count columns
  Ok (rows, read.granules)
