-- The sizes of columns' files in the Wide layout.
use Rattle.std.proofs.Common.{◌≡◌, ℕ, ◌+◌, ◌*◌, ◌≤◌, List, [], ◌∷◌, ◌++◌, length, map, get_or, refl, ap, ◌∙◌, arith}
use Rattle.std.specs.Prelude.{All, sum}
use Rattle.std.specs.List.{concat, enumerate_from, flat_map}
use Rattle.std.proofs.Math.Nat.{mul-le-mul_right}
use Rattle.std.proofs.lemmas.List.{length-map}
use Rattle.std.proofs.lemmas.List.Elements.{All-head, All-map, All-tail, All-weaker}
use Rattle.std.proofs.lemmas.List.Sums.{sum_by-append, sum_by-cons}
use Rattle.mt_types.specs.Items.{item_bytes}
use Rattle.mt_fault.specs.declared.file.FileBytes.{FileBytes}
use Rattle.mt_table.specs.declared.column.Column.{Column}
use Rattle.mt_defs.specs.FileNames.{stream_names}
use Rattle.mt_defs.specs.Granules.{granule_rows}
use Rattle.mt_defs.specs.Rows.{Row, cell, column_values}
use Rattle.mt_defs.specs.Wide.{stream_payloads}
use Rattle.mt_defs.specs.WrittenColumns.{granule_streams, stream_files, wide_column, wide_files}
use Rattle.mt_defs.specs.WrittenFrames.{written_frames}
use Rattle.mt_defs.specs.WrittenStreams.{written_streams}
use Rattle.mt_defs.specs.declared.frame.TheConstants.{FRAME_PAYLOAD}
use Rattle.mt_law_written.specs.Sizes.{HasWidth, IsFlat, RowHasWidths, columns_limit, files_size}
use Rattle.mt_law_written.proofs.FrameSizes.{frames_size}
use Rattle.mt_law_written.proofs.GranuleSizes.{granules_size}
use Rattle.mt_law_written.proofs.MarkSizes.{marks_size}
use Rattle.mt_law_written.proofs.SumLemmas.{runs_size}

-- ---- one column in some rows

-- a column's items in some rows, one after another
abbrev pub column_items : Column → ℕ → List Row → List ℕ
column_items column i rows = flat_map (item_bytes column.ty) (column_values i rows)

items_size : (column : Column) (i width : ℕ) (rows : List Row) → HasWidth column i width rows → length (column_items column i rows) ≤ width * length rows
items_size column i width rows has =
    let each = All-map (λ value. length (item_bytes column.ty value) ≤ width) (λ row. cell row i) rows has in
    let size = runs_size (item_bytes column.ty) width (column_values i rows) each in
    omega (arith, size, ap (λ n. width * n) (length-map rows (λ row. cell row i)))

pub items_frames : (column : Column) (i width : ℕ) → width ≤ FRAME_PAYLOAD → (rows : List Row) → HasWidth column i width rows → length (written_frames (column_items column i rows)) ≤ (width + 25) * length rows
items_frames column i width small rows has =
    let size = items_size column i width rows has in
    let fits : length (column_items column i rows) ≤ FRAME_PAYLOAD * length rows = omega (arith, size, mul-le-mul_right (length rows) small) in
    omega (arith, size, frames_size (length rows) (column_items column i rows) fits)

-- ---- what is known of columns from an index on

abbrev pub AreSmall : List ℕ → Type 0
AreSmall widths = All (λ width. width ≤ FRAME_PAYLOAD) widths

pub first_width : (i : ℕ) (column : Column) (columns : List Column) (width : ℕ) (widths : List ℕ) (rows : List Row) → All (RowHasWidths i (column ∷ columns) (width ∷ widths)) rows → HasWidth column i width rows
first_width i column columns width widths rows all = All-weaker (RowHasWidths i (column ∷ columns) (width ∷ widths)) (λ row. length (item_bytes column.ty (cell row i)) ≤ width) (λ row has. has.0) rows all

pub later_widths : (i : ℕ) (column : Column) (columns : List Column) (width : ℕ) (widths : List ℕ) (rows : List Row) → All (RowHasWidths i (column ∷ columns) (width ∷ widths)) rows → All (RowHasWidths (i + 1) columns widths) rows
later_widths i column columns width widths rows all = All-weaker (RowHasWidths i (column ∷ columns) (width ∷ widths)) (RowHasWidths (i + 1) columns widths) (λ row has. has.1) rows all

-- ---- the two files of a substream

stream_size : (granules name : List ℕ) (payloads : List (List ℕ)) (limit : ℕ) → length (concat (map written_frames payloads)) ≤ limit → files_size (stream_files granules name payloads) ≤ limit + 24 * length granules + 24
stream_size granules name payloads limit content =
    let frames : List (List ℕ) = map written_frames payloads in
    let one : All (λ run. length run ≤ 1) (map (λ run. length run ∷ []) frames) = All-map (λ run. length run ≤ 1) (λ (run : List ℕ). length run ∷ []) frames (λ k d inside. omega arith) in
    omega (arith, content, marks_size 1 24 (omega arith) (map (λ run. length run ∷ []) frames) granules one)

-- where there is one
one_stream : (granules : List ℕ) (streams : List (List (List ℕ))) (limit : ℕ) → ((name : List ℕ) → files_size (stream_files granules name (stream_payloads 0 streams)) ≤ limit) → (names : List (List ℕ)) → length names ≡ 1
    → files_size (flat_map (λ (stream_index, name). stream_files granules name (stream_payloads stream_index streams)) (enumerate_from 0 names)) ≤ limit
one_stream granules streams limit each [] one = absurd (omega (arith, one))
one_stream granules streams limit each (name ∷ []) one = each name
one_stream granules streams limit each (name ∷ other ∷ names) one = absurd (omega (arith, one))

-- ---- the files of a column

-- the data file is the frames of the items in each granule
data_is : (column : Column) (i : ℕ) → IsFlat column → (parts : List (List Row))
    → concat (map written_frames (stream_payloads 0 (map (λ granule. written_streams column.ty (column_values i granule)) parts))) ≡ flat_map (λ granule. written_frames (column_items column i granule)) parts
data_is column i flat [] = refl
data_is column i flat (rows ∷ parts) =
    let later : List ℕ = concat (map written_frames (stream_payloads 0 (map (λ granule. written_streams column.ty (column_values i granule)) parts))) in
    ap (λ (streams : List (List ℕ)). written_frames (get_or streams 0 []) ++ later) (flat.items (column_values i rows))
    ∙ ap (λ rest. written_frames (column_items column i rows) ++ rest) (data_is column i flat parts)

column_size : (column : Column) (i width : ℕ) (rows : List Row) (granules : List ℕ) → IsFlat column → width ≤ FRAME_PAYLOAD → HasWidth column i width rows
    → files_size (wide_column rows granules (i, column)) ≤ (width + 25) * length rows + 24 * length granules + 24
column_size column i width rows granules flat small has =
    let Fits : Row → Type 0 = λ row. length (item_bytes column.ty (cell row i)) ≤ width in
    let frames = granules_size Fits (width + 25) (λ granule. written_frames (column_items column i granule)) (items_frames column i width small) granules rows has in
    let streams : List (List (List ℕ)) = granule_streams rows granules i column in
    let content : length (concat (map written_frames (stream_payloads 0 streams))) ≤ (width + 25) * length rows = omega (arith, frames, ap length (data_is column i flat (granule_rows granules rows))) in
    one_stream granules streams ((width + 25) * length rows + 24 * length granules + 24) (λ name. stream_size granules name (stream_payloads 0 streams) ((width + 25) * length rows) content) (stream_names column) flat.one_name

-- ---- the files of all columns

wide_size_from : (i : ℕ) (columns : List Column) (widths : List ℕ) (rows : List Row) (granules : List ℕ) → length granules ≤ length rows → AreSmall widths → All IsFlat columns → length widths ≡ length columns
    → All (RowHasWidths i columns widths) rows → files_size (flat_map (wide_column rows granules) (enumerate_from i columns)) ≤ columns_limit widths (length rows)
wide_size_from i [] widths rows granules few small flat one_each has = omega arith
wide_size_from i (column ∷ columns) [] rows granules few small flat one_each has = absurd (omega (arith, one_each))
wide_size_from i (column ∷ columns) (width ∷ widths) rows granules few small flat one_each has =
    let here = column_size column i width rows granules (All-head IsFlat column columns flat) (All-head (λ width. width ≤ FRAME_PAYLOAD) width widths small) (first_width i column columns width widths rows has) in
    let rest = wide_size_from (i + 1) columns widths rows granules few (All-tail (λ width. width ≤ FRAME_PAYLOAD) width widths small) (All-tail IsFlat column columns flat) (omega (arith, one_each)) (later_widths i column columns width widths rows has) in
    let all = sum_by-append (λ (file : FileBytes). length file.bytes) (wide_column rows granules (i, column)) (flat_map (wide_column rows granules) (enumerate_from (i + 1) columns)) in
    let total : sum (width ∷ widths) ≡ width + sum widths = sum_by-cons (λ n. n) width widths in
    omega (arith, here, rest, all, few, total, ap (λ n. n * length rows) total)

pub wide_size : (columns : List Column) (widths : List ℕ) (rows : List Row) (granules : List ℕ) → length granules ≤ length rows → AreSmall widths → All IsFlat columns → length widths ≡ length columns
    → All (RowHasWidths 0 columns widths) rows → files_size (wide_files columns rows granules) ≤ columns_limit widths (length rows)
wide_size columns widths rows granules = wide_size_from 0 columns widths rows granules
