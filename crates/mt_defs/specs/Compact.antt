-- The Compact layout: all columns in one data file, docs/FORMAT.md, "Compact parts" (ClickHouse: MergeTreeDataPartCompact).
use Rattle.std.specs.Prelude.{◌≡◌, ℕ, List, length, map, codes, Some}
use Rattle.std.specs.List.{concat, enumerate_from}
use Rattle.mt_table.specs.declared.column.Column.{Column}
use Rattle.mt_defs.specs.Lists.{Pointwise}
use Rattle.mt_defs.specs.Folder.{Folder}
use Rattle.mt_defs.specs.Rows.{Row, column_values}
use Rattle.mt_defs.specs.Granules.{AreGranules, granule_rows}
use Rattle.mt_defs.specs.Encoding.{Encodes}
use Rattle.mt_defs.specs.Frames.{IsFramed}
use Rattle.mt_defs.specs.Marks.{IsMarksFile}

-- the data file of a Compact part
abbrev pub compact_data_name : List ℕ
compact_data_name = codes "data.bin"

-- the marks file of a Compact part
abbrev pub compact_marks_name : List ℕ
compact_marks_name = codes "data.mrk3"

-- each column's payload in a granule is its substreams, one after another
abbrev pub EncodesColumns : List Column → List Row → List (List ℕ) → Type 0
EncodesColumns columns rows payloads =
    Pointwise (λ (column_index, column) payload. (streams : List (List ℕ)) × Encodes column.ty (column_values column_index rows) streams × (payload ≡ concat streams))
    (enumerate_from 0 columns) payloads

-- the data and the marks file of these columns, whose rows are these
pub record IsCompact (columns : List Column) (rows : List Row) (granules : List ℕ) (folder : Folder) : Type 0 where
  pub cut : AreGranules granules rows
  -- for each granule a payload per column
  pub payloads : List (List (List ℕ))
  pub encoded : Pointwise (EncodesColumns columns) (granule_rows granules rows) payloads
  pub data_file : List ℕ
  pub marks_file : List ℕ
  pub has_data : folder compact_data_name ≡ Some data_file
  pub has_marks : folder compact_marks_name ≡ Some marks_file
  pub framed : IsFramed (concat (map concat payloads)) data_file
  pub marks : IsMarksFile (length columns) data_file (map (map length) payloads) granules marks_file
