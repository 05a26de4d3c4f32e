-- The rows of the files of a Wide part, or their first fault: docs/FORMAT.md, "Wide parts" and "The first fault"
-- (ClickHouse: MergeTreeReaderWide).
use Rattle.std.specs.Prelude.{ℕ, ◌+◌, ◌==◌, List, [], ◌∷◌, length, map, slice_index_or, Ok}
use Rattle.std.specs.List.{enumerate_from}
use Rattle.mt_types.specs.declared.value.Value.{Value}
use Rattle.mt_types.specs.Steps.{◌>>=◌, require}
use Rattle.mt_table.specs.declared.column.Column.{Column}
use Rattle.mt_item.specs.declared.fault.CodecWhy.{CodecWhy}
use Rattle.mt_fault.specs.declared.fault.Fault.{Fault}
use Rattle.mt_fault.specs.declared.fault.Why.TheVariants as why
use Rattle.mt_defs.specs.Folder.{Folder}
use Rattle.mt_defs.specs.Rows.{Row}
use Rattle.mt_defs.specs.FileNames.{stream_names, data_name, marks_name}
use Rattle.mt_codec.specs.ColumnReading.{decode_reading}
use Rattle.mt_fault.specs.Faults.{Judged, blame, file_fault, granule_fault}
use Rattle.mt_granules.specs.FileFaults.{codec_why, in_order}
use Rattle.mt_granules.specs.PayloadReading.{granules_reading, payloads_reading}
use Rattle.mt_granules.specs.ColumnRows.{all_values, rows_of}

-- ---- the granules

-- the name of the part's first substream
abbrev pub first_stream : List Column → List ℕ
first_stream [] = []
first_stream (column ∷ columns) = slice_index_or (stream_names column) 0 []

-- the rows of each granule, by the part's first marks file, where they are so many (3.1 to 3.5)
abbrev pub wide_granules : Folder → (count : ℕ) → List Column → Judged (List ℕ)
wide_granules folder count columns =
    granules_reading folder count (data_name (first_stream columns)) (marks_name (first_stream columns)) 1 >>= λ read. Ok read.granules

-- the rows of each granule from this one on are those of the first marks file (3.7)
abbrev pub same_rows : (marks_name : List ℕ) → (granule : ℕ) → (known rows : List ℕ) → Judged (Unit {0})
same_rows marks_name granule [] rows = Ok tt
same_rows marks_name granule (count ∷ known) [] = Ok tt
same_rows marks_name granule (count ∷ known) (here ∷ rows) = require (count == here) (granule_fault marks_name granule why.Rows) >>= λ _. same_rows marks_name (granule + 1) known rows

-- the granules of a marks file are those of the first: as many, and each of as many rows (3.6)
abbrev pub granules_check : (marks_name : List ℕ) → (known rows : List ℕ) → Judged (Unit {0})
granules_check marks_name known rows = require (length known == length rows) (file_fault marks_name why.Length) >>= λ _. same_rows marks_name 0 known rows

-- ---- a column

-- a substream's payload in each granule, where its granules are those of the first marks file
abbrev pub stream_reading : Folder → (granules : List ℕ) → (name : List ℕ) → Judged (List (List ℕ))
stream_reading folder granules name = do
  read ← payloads_reading folder (data_name name) (marks_name name) 1
  _ ← granules_check (marks_name name) granules read.granules
  Ok read.payloads

-- a granule's payloads, one for each substream
abbrev pub payloads_at : ℕ → List (List (List ℕ)) → List (List ℕ)
payloads_at granule streams = map (λ payloads. slice_index_or payloads granule []) streams

-- the fault of a granule's values names the data file of their substream
abbrev pub value_fault : (names : List (List ℕ)) → (granule : ℕ) → ℕ × (ℕ × CodecWhy) → Fault
value_fault names granule (stream, (item, reason)) = granule_fault (data_name (slice_index_or names stream [])) granule (codec_why reason)

-- a column's values in a granule of so many rows (3.8)
abbrev pub granule_reading : Column → List (List (List ℕ)) → ℕ × ℕ → Judged (List Value)
granule_reading column streams (granule, count) =
    blame (value_fault (stream_names column) granule) (decode_reading column.ty count (payloads_at granule streams))

-- a column's values in each granule: all its files are judged before its values (3.1 to 3.8)
abbrev pub column_reading : Folder → (granules : List ℕ) → Column → Judged (List (List Value))
column_reading folder granules column = do
  streams ← in_order (stream_reading folder granules) (stream_names column)
  in_order (granule_reading column streams) (enumerate_from 0 granules)

-- ---- the rows

-- the rows of these columns, so many, whose granules are known
abbrev pub wide_rows_reading : Folder → (granules : List ℕ) → (count : ℕ) → List Column → Judged (List Row)
wide_rows_reading folder granules count columns = in_order (column_reading folder granules) columns >>= λ values. Ok (rows_of count (map all_values values))

-- the rows of these columns, so many, and their granules
abbrev pub wide_reading : Folder → (count : ℕ) → List Column → Judged (List Row × List ℕ)
wide_reading folder count columns = do
  granules ← wide_granules folder count columns
  rows ← wide_rows_reading folder granules count columns
  Ok (rows, granules)
