-- Sizes of the writer's files in bytes, where the items of each column have at most a known number.
use Rattle.std.specs.Prelude.{◌≡◌, ℕ, ◌+◌, ◌*◌, ◌≤◌, List, [], ◌∷◌, length, sum, All}
use Rattle.std.specs.List.{flat_map, sum_by}
use Rattle.std.specs.Fmt.{decimal}
use Rattle.mt_types.specs.declared.value.Value.{Value}
use Rattle.mt_types.specs.Items.{item_bytes}
use Rattle.mt_fault.specs.declared.file.FileBytes.{FileBytes}
use Rattle.mt_table.specs.declared.column.Column.{Column}
use Rattle.mt_table.specs.declared.definition.PartDef.{PartDef}
use Rattle.mt_defs.specs.FileNames.{stream_names}
use Rattle.mt_defs.specs.Metadata.{columns_text}
use Rattle.mt_defs.specs.Rows.{Row, cell}
use Rattle.mt_defs.specs.WrittenStreams.{written_streams}

-- the bytes of some files together
abbrev pub files_size : List FileBytes → ℕ
files_size files = sum_by (λ file. length file.bytes) files

-- ---- widths of columns

-- a column whose values are in one substream, one item after another
pub record IsFlat (column : Column) : Type 0 where
  pub one_name : length (stream_names column) ≡ 1
  pub items : (values : List Value) → written_streams column.ty values ≡ flat_map (item_bytes column.ty) values ∷ []

-- the items of a column, by its index, have at most so many bytes
abbrev pub HasWidth : Column → (column_index width : ℕ) → List Row → Type 0
HasWidth column column_index width rows = All (λ row. length (item_bytes column.ty (cell row column_index)) ≤ width) rows

-- the items of a row have at most these many bytes, one width per column, where the first column has this index
abbrev pub RowHasWidths : ℕ → List Column → List ℕ → Row → Type 0
RowHasWidths column_index [] [] row = Unit {0}
RowHasWidths column_index [] (width ∷ widths) row = ⊥
RowHasWidths column_index (column ∷ columns) [] row = ⊥
RowHasWidths column_index (column ∷ columns) (width ∷ widths) row =
    (length (item_bytes column.ty (cell row column_index)) ≤ width) × RowHasWidths (column_index + 1) columns widths row

-- each column is flat, and its items have at most its width in each row
pub record HaveWidths (columns : List Column) (widths : List ℕ) (rows : List Row) : Type 0 where
  pub flat : All IsFlat columns
  pub one_each : length widths ≡ length columns
  pub within : All (RowHasWidths 0 columns widths) rows

-- ---- limits

-- the most that the data and marks files of columns of these widths have, over so many rows
abbrev pub columns_limit : List ℕ → ℕ → ℕ
columns_limit widths count = (sum widths + 49 * length widths) * count + 24 * length widths

-- the most that the files of a definition have, over so many rows whose primary keys have at most so many bytes
abbrev pub definition_limit : PartDef → List ℕ → (key count : ℕ) → ℕ
definition_limit definition widths key count =
    length (columns_text definition.columns) + length (decimal count) + key * (count + 1) + columns_limit widths count
