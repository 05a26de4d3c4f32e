-- The Wide layout: a data file and a marks file per substream, docs/FORMAT.md, "Wide parts" (ClickHouse: MergeTreeDataPartWide).
use Rattle.std.specs.Prelude.{◌≡◌, ℕ, List, [], ◌∷◌, length, map, Some, All, slice_index_or}
use Rattle.std.specs.List.{concat, enumerate_from}
use Rattle.mt_table.specs.declared.column.Column.{Column}
use Rattle.mt_defs.specs.Lists.{Pointwise}
use Rattle.mt_defs.specs.Folder.{Folder}
use Rattle.mt_defs.specs.Rows.{Row, column_values}
use Rattle.mt_defs.specs.Granules.{AreGranules, granule_rows}
use Rattle.mt_defs.specs.Encoding.{Encodes}
use Rattle.mt_defs.specs.Frames.{IsFramed}
use Rattle.mt_defs.specs.Marks.{IsMarksFile}
use Rattle.mt_defs.specs.FileNames.{stream_names, data_name, marks_name}

-- a substream's payload in each granule, by the substream's index
abbrev pub stream_payloads : ℕ → List (List (List ℕ)) → List (List ℕ)
stream_payloads stream_index granule_streams = map (λ streams. slice_index_or streams stream_index []) granule_streams

-- each granule's substreams encode the column's values in it
abbrev pub EncodesGranules : Column → ℕ → List (List Row) → List (List (List ℕ)) → Type 0
EncodesGranules column column_index granules granule_streams =
    Pointwise (λ rows streams. Encodes column.ty (column_values column_index rows) streams) granules granule_streams

-- the two files of a substream that has these payloads, one per granule
pub record HasStream (name : List ℕ) (payloads : List (List ℕ)) (granules : List ℕ) (folder : Folder) : Type 0 where
  pub data_file : List ℕ
  pub marks_file : List ℕ
  pub has_data : folder (data_name name) ≡ Some data_file
  pub has_marks : folder (marks_name name) ≡ Some marks_file
  pub framed : IsFramed (concat payloads) data_file
  pub marks : IsMarksFile 1 data_file (map (λ payload. length payload ∷ []) payloads) granules marks_file

-- the files of a column
pub record HasColumn (column : Column) (column_index : ℕ) (rows : List Row) (granules : List ℕ) (folder : Folder) : Type 0 where
  pub granule_streams : List (List (List ℕ))
  pub encoded : EncodesGranules column column_index (granule_rows granules rows) granule_streams
  pub streams : All (λ (stream_index, name). HasStream name (stream_payloads stream_index granule_streams) granules folder) (enumerate_from 0 (stream_names column))

-- the data and marks files of these columns, whose rows are these
pub record IsWide (columns : List Column) (rows : List Row) (granules : List ℕ) (folder : Folder) : Type 0 where
  pub cut : AreGranules granules rows
  pub columns_there : All (λ (column_index, column). HasColumn column column_index rows granules folder) (enumerate_from 0 columns)
