-- The sizes of the two files of a minmax index: each entry is framed by itself, and has a mark.
use Rattle.std.proofs.Common.{◌≡◌, ℕ, ◌+◌, ◌*◌, ◌≤◌, List, [], ◌∷◌, length, map, get_or, ap, arith, length-append}
use Rattle.std.specs.Prelude.{All}
use Rattle.std.specs.List.{concat, flat_map}
use Rattle.std.proofs.Math.Nat.{mul-le-mul_left}
use Rattle.std.proofs.lemmas.List.{length-map}
use Rattle.std.proofs.lemmas.List.Elements.{All-head, All-map, All-tail}
use Rattle.mt_types.specs.Items.{item_bytes}
use Rattle.mt_types.specs.declared.ty.Ty.{Ty}
use Rattle.mt_table.specs.declared.column.Column.{Column}
use Rattle.mt_table.specs.declared.definition.Table.{Table}
use Rattle.mt_table.specs.declared.skip.Skip.{Skip}
use Rattle.mt_table.specs.declared.skip.SkipKind.TheVariants.{Minmax}
use Rattle.mt_defs.specs.Granules.{granule_rows}
use Rattle.mt_defs.specs.Lists.{offsets_from}
use Rattle.mt_defs.specs.Marks.{mark_bytes, u64_bytes}
use Rattle.mt_defs.specs.Metadata.{column_at}
use Rattle.mt_defs.specs.Rows.{Row, cell, column_values}
use Rattle.mt_defs.specs.SkipIndexes.{entry_rows, skip_mark_bytes}
use Rattle.mt_defs.specs.WrittenFrames.{mark_at, written_frames}
use Rattle.mt_defs.specs.WrittenGranules.{written_granules}
use Rattle.mt_defs.specs.WrittenSkips.{skip_files, written_entries, written_entry, written_skip_mark}
use Rattle.mt_defs.specs.declared.frame.TheConstants.{FRAME_PAYLOAD}
use Rattle.mt_granules.proofs.DataFileLemmas.{length-offsets}
use Rattle.mt_law_written.proofs.ListLemmas.{All-granules, All-groups}
use Rattle.mt_law_written.specs.Sizes.{HasWidth, files_size}
use Rattle.mt_law_written.proofs.FrameSizes.{frames_size}
use Rattle.mt_law_written.proofs.GranuleSizes.{granules_few}
use Rattle.mt_law_written.proofs.MinmaxSizes.{minmax_size}
use Rattle.mt_law_written.proofs.SkipLimits.{groups_few}
use Rattle.mt_law_written.proofs.SumLemmas.{runs_size}

-- ---- entries of at most so many bytes

frames_of_entries : (limit : ℕ) → limit ≤ FRAME_PAYLOAD → (entries : List (List ℕ)) → All (λ entry. length entry ≤ limit) entries → length (concat (map written_frames entries)) ≤ (limit + 25) * length entries
frames_of_entries limit small [] each = omega arith
frames_of_entries limit small (entry ∷ entries) each =
    let first : length entry ≤ limit = All-head (λ entry. length entry ≤ limit) entry entries each in
    let here = frames_size 1 entry (omega (arith, first, small)) in
    let rest = frames_of_entries limit small entries (All-tail (λ entry. length entry ≤ limit) entry entries each) in
    let all = length-append (written_frames entry) (concat (map written_frames entries)) in
    omega (arith, first, here, rest, all)

mark_size : (offset : ℕ) → length (skip_mark_bytes (written_skip_mark offset)) ≤ 24
mark_size offset = omega (arith, length-append (mark_bytes (mark_at offset)) (u64_bytes 1), length-append (u64_bytes offset) (u64_bytes 0))

marks_of_entries : (sizes : List ℕ) → length (flat_map (λ offset. skip_mark_bytes (written_skip_mark offset)) (offsets_from 0 sizes)) ≤ 24 * length sizes
marks_of_entries sizes =
    let size = runs_size (λ offset. skip_mark_bytes (written_skip_mark offset)) 24 (offsets_from 0 sizes) (λ k d inside. mark_size (get_or (offsets_from 0 sizes) k d)) in
    omega (arith, size, length-offsets 0 sizes)

-- ---- the entries of a minmax index

entries_small : (table : Table) (skip : Skip) (rows : List Row) (granules : List ℕ) (width : ℕ) → skip.kind ≡ Minmax → HasWidth (column_at table.columns skip.column) skip.column width rows
    → All (λ entry. length entry ≤ 2 * width) (written_entries table skip rows granules)
entries_small table skip rows granules width is has =
    let column : Column = column_at table.columns skip.column in
    let ty : Ty = column.ty in
    let Fits : Row → Type 0 = λ row. length (item_bytes ty (cell row skip.column)) ≤ width in
    let groups : All (All Fits) (entry_rows skip rows granules) = All-groups Fits skip.granularity (length granules) (granule_rows granules rows) (All-granules Fits granules rows has) in
    All-map (λ entry. length entry ≤ 2 * width) (λ group. written_entry skip.kind ty (column_values skip.column group)) (entry_rows skip rows granules) (λ k d inside.
    let group : List Row = get_or (entry_rows skip rows granules) k d in
    let values = All-map (λ value. length (item_bytes ty value) ≤ width) (λ row. cell row skip.column) group (groups k d inside) in
    omega (arith, minmax_size ty (column_values skip.column group) width values, ap (λ kind. length (written_entry kind ty (column_values skip.column group))) is))

entries_few : (table : Table) (skip : Skip) (rows : List Row) (granules : List ℕ) → length (written_entries table skip rows granules) ≤ length granules
entries_few table skip rows granules =
    let entry_of : List Row → List ℕ = λ group. written_entry skip.kind (column_at table.columns skip.column).ty (column_values skip.column group) in
    omega (arith, length-map (entry_rows skip rows granules) entry_of, groups_few skip.granularity (length granules) (granule_rows granules rows))

pub skip_size : (table : Table) (rows : List Row) (skip : Skip) (width : ℕ) → skip.kind ≡ Minmax → 2 * width ≤ FRAME_PAYLOAD → HasWidth (column_at table.columns skip.column) skip.column width rows
    → files_size (skip_files table rows skip) ≤ (2 * width + 49) * length rows
skip_size table rows skip width is small has =
    let granules = written_granules table.settings table.columns rows in
    let entries = written_entries table skip rows granules in
    let frames = map written_frames entries in
    let content = frames_of_entries (2 * width) small entries (entries_small table skip rows granules width is has) in
    let marks = marks_of_entries (map length frames) in
    let few : length entries ≤ length rows = omega (arith, entries_few table skip rows granules, granules_few table.settings table.columns rows) in
    omega (arith, content, marks, length-map frames length, length-map entries written_frames, mul-le-mul_left (2 * width + 49) few)
