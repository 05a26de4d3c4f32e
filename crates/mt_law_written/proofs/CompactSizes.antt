-- The sizes of the data and marks file in the Compact layout.
use Rattle.std.proofs.Common.{◌≡◌, ℕ, ◌+◌, ◌*◌, ◌≤◌, List, [], ◌∷◌, ◌++◌, length, map, get_or, refl, ap, ◌∙◌, arith, append-nil, length-append}
use Rattle.std.specs.Prelude.{All, sum}
use Rattle.std.specs.List.{concat, enumerate_from, flat_map}
use Rattle.std.proofs.Math.Nat.{mul-le-mul_left}
use Rattle.std.proofs.lemmas.List.{length-map}
use Rattle.std.proofs.lemmas.List.Elements.{All-head, All-map, All-tail}
use Rattle.std.proofs.lemmas.List.FromFn.{length-enumerate_from}
use Rattle.std.proofs.lemmas.List.Sums.{sum_by-cons}
use Rattle.mt_table.specs.declared.column.Column.{Column}
use Rattle.mt_defs.specs.Granules.{granule_rows}
use Rattle.mt_defs.specs.Rows.{Row, column_values}
use Rattle.mt_defs.specs.WrittenColumns.{compact_files, compact_frames}
use Rattle.mt_defs.specs.WrittenFrames.{written_frames}
use Rattle.mt_defs.specs.WrittenStreams.{written_streams}
use Rattle.mt_defs.specs.declared.frame.TheConstants.{FRAME_PAYLOAD}
use Rattle.mt_law_written.specs.Sizes.{IsFlat, RowHasWidths, columns_limit, files_size}
use Rattle.mt_law_written.proofs.ColumnSizes.{AreSmall, column_items, first_width, items_frames, later_widths}
use Rattle.mt_law_written.proofs.GranuleSizes.{granules_size}
use Rattle.mt_law_written.proofs.MarkSizes.{marks_size}

-- ---- a granule

-- the frames of a column in a granule
abbrev run_of : List Row → ℕ × Column → List ℕ
run_of rows (i, column) = written_frames (concat (written_streams column.ty (column_values i rows)))

run_is : (column : Column) (i : ℕ) (rows : List Row) → IsFlat column → run_of rows (i, column) ≡ written_frames (column_items column i rows)
run_is column i rows flat = ap (λ streams. written_frames (concat streams)) (flat.items (column_values i rows)) ∙ ap written_frames (append-nil (column_items column i rows))

granule_size_from : (i : ℕ) (columns : List Column) (widths : List ℕ) → AreSmall widths → All IsFlat columns → length widths ≡ length columns → (rows : List Row)
    → All (RowHasWidths i columns widths) rows → length (concat (map (run_of rows) (enumerate_from i columns))) ≤ (sum widths + 25 * length widths) * length rows
granule_size_from i [] widths small flat one_each rows has = omega arith
granule_size_from i (column ∷ columns) [] small flat one_each rows has = absurd (omega (arith, one_each))
granule_size_from i (column ∷ columns) (width ∷ widths) small flat one_each rows has =
    let here = items_frames column i width (All-head (λ width. width ≤ FRAME_PAYLOAD) width widths small) rows (first_width i column columns width widths rows has) in
    let is = ap length (run_is column i rows (All-head IsFlat column columns flat)) in
    let rest = granule_size_from (i + 1) columns widths (All-tail (λ width. width ≤ FRAME_PAYLOAD) width widths small) (All-tail IsFlat column columns flat) (omega (arith, one_each)) rows (later_widths i column columns width widths rows has) in
    let all = length-append (run_of rows (i, column)) (concat (map (run_of rows) (enumerate_from (i + 1) columns))) in
    let total : sum (width ∷ widths) ≡ width + sum widths = sum_by-cons (λ n. n) width widths in
    omega (arith, here, is, rest, all, ap (λ n. n * length rows) total)

-- ---- all granules

-- the data file is the frames of each granule
pub data_is : (columns : List Column) (parts : List (List Row)) → concat (map concat (map (compact_frames columns) parts)) ≡ flat_map (λ granule. concat (compact_frames columns granule)) parts
data_is columns [] = refl
data_is columns (rows ∷ parts) = ap (λ rest. concat (compact_frames columns rows) ++ rest) (data_is columns parts)

data_size : (columns : List Column) (widths : List ℕ) (rows : List Row) (granules : List ℕ) → AreSmall widths → All IsFlat columns → length widths ≡ length columns → All (RowHasWidths 0 columns widths) rows
    → length (concat (map concat (map (compact_frames columns) (granule_rows granules rows)))) ≤ (sum widths + 25 * length widths) * length rows
data_size columns widths rows granules small flat one_each has =
    let size = granules_size (RowHasWidths 0 columns widths) (sum widths + 25 * length widths) (λ granule. concat (compact_frames columns granule)) (granule_size_from 0 columns widths small flat one_each) granules rows has in
    omega (arith, size, ap length (data_is columns (granule_rows granules rows)))

-- each granule has a run of frames for each column
pub runs_few : (columns : List Column) (parts : List (List Row)) → All (λ run. length run ≤ length columns) (map (map length) (map (compact_frames columns) parts))
runs_few columns parts =
    let Few : List ℕ → Type 0 = λ run. length run ≤ length columns in
    All-map Few (map length) (map (compact_frames columns) parts) (All-map (λ frames. Few (map length frames)) (compact_frames columns) parts (λ k d inside.
    let rows : List Row = get_or parts k d in
    let numbered : List (ℕ × Column) = enumerate_from 0 columns in
    omega (arith, length-map (compact_frames columns rows) length, length-map numbered (run_of rows), length-enumerate_from 0 columns)))

pub compact_size : (columns : List Column) (widths : List ℕ) (rows : List Row) (granules : List ℕ) → 1 ≤ length columns → length granules ≤ length rows → AreSmall widths → All IsFlat columns → length widths ≡ length columns
    → All (RowHasWidths 0 columns widths) rows → files_size (compact_files columns rows granules) ≤ columns_limit widths (length rows)
compact_size columns widths rows granules some few small flat one_each has =
    let parts : List (List Row) = granule_rows granules rows in
    let content = data_size columns widths rows granules small flat one_each has in
    let marks = marks_size (length columns) (24 * length columns) (omega (arith, some)) (map (map length) (map (compact_frames columns) parts)) granules (runs_few columns parts) in
    omega (arith, content, marks, mul-le-mul_left (24 * length columns) few, one_each, ap (λ n. n * length rows) one_each)
