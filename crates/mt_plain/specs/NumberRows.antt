-- Rows of two UInt64 columns, and what the plain program makes of them on its way to the folder.
use Rattle.std.specs.Prelude.{◌≡◌, ℕ, ◌+◌, ◌≤◌, List, [], ◌∷◌, ◌++◌, length, map, take, drop, decimal, All, IsTrue}
use Rattle.std.specs.List.{flat_map, concat}
use Rattle.mt_types.specs.declared.ty.Ty.TheVariants.{UInt}
use Rattle.mt_types.specs.declared.ty.Width.TheVariants.{W64}
use Rattle.mt_types.specs.Fits.{fits_of}
use Rattle.mt_types.specs.Items.{item_bytes}
use Rattle.mt_table.specs.declared.definition.Table.{Table}
use Rattle.mt_table.specs.Form.{IsNumbersTable}
use Rattle.mt_fault.specs.declared.file.FileBytes.{FileBytes}
use Rattle.mt_defs.specs.Rows.{Row, RowFits, cell, column_values}
use Rattle.mt_defs.specs.Granules.{granule_rows}
use Rattle.mt_defs.specs.Marks.{entry_bytes}
use Rattle.mt_defs.specs.Metadata.{columns_name, count_name, columns_text}
use Rattle.mt_defs.specs.PrimaryIndex.{index_name, primary_index_of}
use Rattle.mt_defs.specs.Projections.{base_of}
use Rattle.mt_defs.specs.WrittenColumns.{file}
use Rattle.mt_defs.specs.WrittenFrames.{written_frames, mark_at}
use Rattle.mt_defs.specs.WrittenGranules.{granules_from, is_full}

-- rows of a table of two UInt64 columns
pub record AreNumberRows (table : Table) (rows : List Row) : Type 0 where
  pub form : IsNumbersTable table
  pub fit : All (RowFits table.columns) rows

-- each row has a 64-bit number in this column
abbrev pub HasNumbers : ℕ → List Row → Type 0
HasNumbers column_index rows = All (λ row. IsTrue (fits_of (UInt W64) (cell row column_index))) rows

-- the items of a column in some rows, one after another
abbrev pub items_of_column : ℕ → List Row → List ℕ
items_of_column column_index rows = flat_map (item_bytes (UInt W64)) (column_values column_index rows)

-- the payload of some rows: that of the first column, and then that of the second
abbrev pub rows_payload : List Row → List ℕ
rows_payload rows = items_of_column 0 rows ++ items_of_column 1 rows

-- the first granule of some rows has so many of them
pub record IsFirstGranule (table : Table) (rows : List Row) (count : ℕ) : Type 0 where
  pub some : 1 ≤ count
  pub within : count ≤ length rows
  pub cut : granules_from (is_full table.settings table.columns) [] rows ≡ count ∷ granules_from (is_full table.settings table.columns) [] (drop count rows)

-- the frames of a column in the rows of a granule
abbrev pub granule_frames : ℕ → List Row → List ℕ
granule_frames column_index rows = written_frames (items_of_column column_index rows)

-- the data file of a column
abbrev pub column_data : ℕ → List ℕ → List Row → List ℕ
column_data column_index granules rows = concat (map (granule_frames column_index) (granule_rows granules rows))

-- the entries of a column's marks file from a granule on, whose frames begin at an offset
abbrev pub column_marks_from : ℕ → ℕ → List ℕ → List Row → List ℕ
column_marks_from column_index offset [] rows = entry_bytes (mark_at offset ∷ []) 0
column_marks_from column_index offset (count ∷ granules) rows =
    entry_bytes (mark_at offset ∷ []) count ++ column_marks_from column_index (offset + length (granule_frames column_index (take count rows))) granules (drop count rows)

-- the two files of a column
pub record IsStream (column_index : ℕ) (granules : List ℕ) (rows : List Row) (data_bytes marks_bytes : List ℕ) : Type 0 where
  pub framed : data_bytes ≡ column_data column_index granules rows
  pub marked : marks_bytes ≡ column_marks_from column_index 0 granules rows

-- columns.txt, count.txt and primary.idx
abbrev pub plain_text_files : Table → List Row → List ℕ → List FileBytes
plain_text_files table rows granules =
    file columns_name (columns_text table.columns) ∷ file count_name (decimal (length rows)) ∷ file index_name (primary_index_of (base_of table) rows granules) ∷ []
