-- A folder that has the writer's Wide files of some rows has the rows' columns.
use Rattle.std.proofs.Common.{◌≡◌, ℕ, zero, suc, ◌<◌, ◌^◌, true, List, [], ◌∷◌, length, map, get_or, lit<}
use Rattle.std.specs.Prelude.{All, IsTrue, Some}
use Rattle.std.specs.List.{list_all, concat, enumerate_from}
use Rattle.std.proofs.lemmas.List.Elements.{All-nil, All-cons, All-head, All-tail, All-weaker}
use Rattle.mt_types.specs.declared.value.Value.TheVariants.{Null}
use Rattle.mt_types.specs.Fits.{fits_of}
use Rattle.mt_types.specs.Profile.{is_profile}
use Rattle.mt_fault.specs.declared.file.FileBytes.{FileBytes}
use Rattle.mt_table.specs.declared.column.Column.{Column}
use Rattle.mt_table.proofs.PointwiseLemmas.{Pointwise-get_or}
use Rattle.mt_defs.specs.Lists.{AreBytes}
use Rattle.mt_defs.specs.Folder.{Folder}
use Rattle.mt_defs.specs.Rows.{Row, RowFits, cell, column_values}
use Rattle.mt_defs.specs.Granules.{AreGranules, granule_rows}
use Rattle.mt_defs.specs.Encoding.{Encodes}
use Rattle.mt_defs.specs.FileNames.{stream_names}
use Rattle.mt_defs.specs.Wide.{EncodesGranules, HasColumn, HasStream, IsWide, stream_payloads}
use Rattle.mt_defs.specs.WrittenStreams.{written_streams}
use Rattle.mt_defs.specs.WrittenFrames.{written_frames, written_marks_bytes}
use Rattle.mt_defs.specs.WrittenColumns.{file, granule_streams, stream_files, wide_column, wide_files}
use Rattle.mt_codec.proofs.EncodedLemmas.{written_encodes}
use Rattle.mt_law_written.proofs.MarkLemmas.{framed_one_by_one, is_stream_marks}
use Rattle.mt_law_written.specs.Layouts.{AreShort, IsShort}
use Rattle.mt_law_written.proofs.ByteLemmas.{streams_are_bytes}
use Rattle.mt_law_written.proofs.ListLemmas.{All-of_flat_map, All-enumerated, All-both, All-granules, All-mapped, Pointwise-mapped, list_all-mapped}

-- what stands for a file that no list has
abbrev pub no_file : FileBytes
no_file = file [] []

-- the folder has a file
abbrev pub HasFile : Folder → FileBytes → Type 0
HasFile folder file = folder file.name ≡ Some file.bytes

-- ---- the values of a column

-- a column's values fit
pub record ColumnHolds (column : Column) (column_index : ℕ) (rows : List Row) : Type 0 where
  pub profile : is_profile column.ty ≡ true
  pub fit : All (λ row. fits_of column.ty (cell row column_index) ≡ true) rows

pub column_holds : (columns : List Column) (rows : List Row) → All (λ column. IsTrue (is_profile column.ty)) columns → All (RowFits columns) rows → (k : ℕ) (d : Column) → k < length columns → ColumnHolds (get_or columns k d) k rows
column_holds columns rows types fit k d inside =
    let column : Column = get_or columns k d in
    record {
      profile = types k d inside;
      fit =
          All-weaker (RowFits columns) (λ row. fits_of column.ty (cell row k) ≡ true) (λ row fits.
          Pointwise-get_or (λ column value. IsTrue (fits_of column.ty value)) columns row k d Null fits inside) rows fit;
    }

pub columns_hold : (columns : List Column) (rows : List Row) → All (λ column. IsTrue (is_profile column.ty)) columns → All (RowFits columns) rows → All (λ (column_index, column). ColumnHolds column column_index rows) (enumerate_from 0 columns)
columns_hold columns rows types fit = All-enumerated (λ (column_index, column). ColumnHolds column column_index rows) columns (column_holds columns rows types fit)

values_fit : (column : Column) (k : ℕ) (rows : List Row) → ColumnHolds column k rows → list_all (fits_of column.ty) (column_values k rows) ≡ true
values_fit column k rows holds = list_all-mapped (fits_of column.ty) (λ row. cell row k) rows holds.fit

-- the writer's substreams of a column
pub column_encodes : (column : Column) (k : ℕ) (rows : List Row) → ColumnHolds column k rows → Encodes column.ty (column_values k rows) (written_streams column.ty (column_values k rows))
column_encodes column k rows holds = written_encodes column.ty (column_values k rows) holds.profile (values_fit column k rows holds)

pub column_bytes : (column : Column) (k : ℕ) (rows : List Row) → ColumnHolds column k rows → All AreBytes (written_streams column.ty (column_values k rows))
column_bytes column k rows holds = streams_are_bytes column.ty (column_values k rows) holds.profile (values_fit column k rows holds)

-- and in each granule
pub granules_hold : (column : Column) (k : ℕ) (granules : List ℕ) (rows : List Row) → ColumnHolds column k rows → All (ColumnHolds column k) (granule_rows granules rows)
granules_hold column k granules rows holds =
    let Fit : Row → Type 0 = λ row. fits_of column.ty (cell row k) ≡ true in
    All-weaker (All Fit) (ColumnHolds column k) (λ granule fit. record { profile = holds.profile; fit = fit }) (granule_rows granules rows) (All-granules Fit granules rows holds.fit)

-- ---- the files of a substream

stream_held : (name : List ℕ) (payloads : List (List ℕ)) (granules : List ℕ) (folder : Folder) → All (λ count. count < 2 ^ 64) granules → All AreBytes payloads → All IsShort (stream_files granules name payloads)
    → All (HasFile folder) (stream_files granules name payloads) → HasStream name payloads granules folder
stream_held name payloads granules folder few bytes short files = record {
  data_file = concat (map written_frames payloads);
  marks_file = written_marks_bytes 1 (map (λ run. length run ∷ []) (map written_frames payloads)) granules;
  has_data = files 0 no_file (lit< tt);
  has_marks = files 1 no_file (lit< tt);
  framed = framed_one_by_one payloads bytes;
  marks = is_stream_marks payloads granules few bytes (short 0 no_file (lit< tt));
}

stream_at : (streams : List (List ℕ)) (i : ℕ) → All AreBytes streams → AreBytes (get_or streams i [])
stream_at [] i bytes = All-nil (λ byte. byte < 256)
stream_at (stream ∷ streams) zero bytes = All-head AreBytes stream streams bytes
stream_at (stream ∷ streams) (suc i) bytes = stream_at streams i (All-tail AreBytes stream streams bytes)

pub payloads_bytes : (i : ℕ) (granules : List (List (List ℕ))) → All (All AreBytes) granules → All AreBytes (stream_payloads i granules)
payloads_bytes i [] bytes = All-nil AreBytes
payloads_bytes i (streams ∷ granules) bytes =
    All-cons AreBytes (get_or streams i []) (stream_payloads i granules) (stream_at streams i (All-head (All AreBytes) streams granules bytes)) (payloads_bytes i granules (All-tail (All AreBytes) streams granules bytes))

-- ---- the files of a column

pub column_held : (column : Column) (k : ℕ) (rows : List Row) (granules : List ℕ) (folder : Folder) → All (λ count. count < 2 ^ 64) granules → ColumnHolds column k rows → All IsShort (wide_column rows granules (k, column))
    → All (HasFile folder) (wide_column rows granules (k, column)) → HasColumn column k rows granules folder
column_held column k rows granules folder few holds short files =
    let each = granules_hold column k granules rows holds in
    let streams_of : List Row → List (List ℕ) = λ granule. written_streams column.ty (column_values k granule) in
    let streams : List (List (List ℕ)) = granule_streams rows granules k column in
    let encoded : EncodesGranules column k (granule_rows granules rows) streams =
    Pointwise-mapped (λ granule streams. Encodes column.ty (column_values k granule) streams) streams_of (granule_rows granules rows)
    (All-weaker (ColumnHolds column k) (λ granule. Encodes column.ty (column_values k granule) (streams_of granule)) (column_encodes column k) (granule_rows granules rows) each) in
    let bytes : All (All AreBytes) streams =
    All-mapped (All AreBytes) streams_of (granule_rows granules rows) (All-weaker (ColumnHolds column k) (λ granule. All AreBytes (streams_of granule)) (column_bytes column k) (granule_rows granules rows) each) in
    let numbered : List (ℕ × List ℕ) = enumerate_from 0 (stream_names column) in
    let written : ℕ × List ℕ → List FileBytes = λ (stream_index, name). stream_files granules name (stream_payloads stream_index streams) in
    record {
      granule_streams = streams;
      encoded = encoded;
      streams =
          All-both (λ p. All IsShort (written p)) (λ p. All (HasFile folder) (written p)) (λ (stream_index, name). HasStream name (stream_payloads stream_index streams) granules folder) (λ p short there.
          stream_held p.1 (stream_payloads p.0 streams) granules folder few (payloads_bytes p.0 streams bytes) short there) numbered
          (All-of_flat_map IsShort written numbered short) (All-of_flat_map (HasFile folder) written numbered files);
    }

-- the files of all columns
pub wide_held : (columns : List Column) (rows : List Row) (granules : List ℕ) (folder : Folder) → AreGranules granules rows → All (λ count. count < 2 ^ 64) granules
    → All (λ (column_index, column). ColumnHolds column column_index rows) (enumerate_from 0 columns) → AreShort (wide_files columns rows granules) → All (HasFile folder) (wide_files columns rows granules) → IsWide columns rows granules folder
wide_held columns rows granules folder cut few hold short files =
    let numbered : List (ℕ × Column) = enumerate_from 0 columns in
    let each_short = All-of_flat_map IsShort (wide_column rows granules) numbered short in
    let each_there = All-of_flat_map (HasFile folder) (wide_column rows granules) numbered files in
    record {
      cut = cut;
      columns_there = λ j d inside.
          let p : ℕ × Column = get_or numbered j d in
          column_held p.1 p.0 rows granules folder few (hold j d inside) (each_short j d inside) (each_there j d inside);
    }
