-- A folder that has the writer's files of a skip index has the index.
use Rattle.std.proofs.Common.{◌≡◌, ℕ, zero, suc, ◌+◌, ◌<◌, ◌≤◌, ◌^◌, true, false, List, [], ◌∷◌, ◌++◌, length, map, get_or, refl, ap, sym, ◌∙◌, subst, arith, lit<}
use Rattle.std.specs.Prelude.{All, Some, if◌then◌else◌}
use Rattle.std.specs.List.{flat_map, concat}
use Rattle.std.specs.List.Sorted.{IsNonDecreasingBy}
use Rattle.std.specs.Int.{w64}
use Rattle.std.proofs.lemmas.List.{append-nil}
use Rattle.std.proofs.lemmas.List.Folds.{flat_map-map}
use Rattle.std.proofs.lemmas.List.Elements.{All-append, All-weaker}
use Rattle.mt_types.specs.declared.ty.Ty.{Ty}
use Rattle.mt_types.specs.declared.value.Value.{Value}
use Rattle.mt_types.specs.Fits.{fits_of}
use Rattle.std.specs.Ordering.{is_eq}
use Rattle.mt_types.specs.Order.{value_cmp}
use Rattle.mt_types.specs.Items.{item_bytes}
use Rattle.mt_table.specs.declared.definition.Table.{Table}
use Rattle.mt_table.specs.declared.limits.TheConstants.{MAX_ROWS}
use Rattle.mt_table.specs.declared.skip.Skip.{Skip}
use Rattle.mt_table.specs.declared.skip.SkipKind.{SkipKind}
use Rattle.mt_table.specs.declared.skip.SkipKind.TheVariants.{Minmax, Set}
use Rattle.mt_defs.specs.Frames.{IsFileOf}
use Rattle.mt_defs.specs.Lists.{AreBytes, Pointwise, offsets_from}
use Rattle.mt_defs.specs.Folder.{Folder}
use Rattle.mt_defs.specs.Rows.{Row, cell, column_values}
use Rattle.mt_defs.specs.Granules.{granule_rows}
use Rattle.mt_defs.specs.Marks.{MarksPosition, u64_bytes}
use Rattle.mt_defs.specs.Metadata.{column_at}
use Rattle.mt_defs.specs.Part.{marks_ending}
use Rattle.mt_defs.specs.SkipIndexes.{HasSkipIndex, SkipMark, distinct_values, entry_rows, is_too_many, set_bytes, skip_mark_bytes}
use Rattle.mt_defs.specs.WrittenFrames.{written_frames, mark_at}
use Rattle.mt_defs.specs.WrittenGranules.{written_granules, is_small}
use Rattle.mt_defs.specs.WrittenPartition.{minmax_bytes}
use Rattle.mt_defs.specs.WrittenSkips.{skip_files, written_entries, written_entry, written_skip_mark}
use Rattle.mt_defs.proofs.ListLemmas.{All-distinct_by}
use Rattle.mt_skip.proofs.EntriesLemmas.{entries_agree}
use Rattle.mt_layout.proofs.HoldLemmas.{granules_hold}
use Rattle.mt_law_written.proofs.MarkLemmas.{framed_one_by_one, offset_within, starts_denote, all_blocks, file_is_blocks}
use Rattle.mt_item.proofs.ItemBytes.{item_is_bytes, number_bytes}
use Rattle.mt_law_written.proofs.ListLemmas.{All-mapped, All-to_flat_map, All-granules, All-groups, Pointwise-firsts}
use Rattle.mt_law_written.proofs.WideLemmas.{ColumnHolds, HasFile, no_file}
use Rattle.mt_law_written.proofs.MarkLimits.{few_granules}
use Rattle.mt_law_written.proofs.MinmaxSizes.{best_all}
use Rattle.mt_law_written.proofs.SkipLimits.{skip_short}

-- ---- entries are bytes

abbrev Fits : Ty → Value → Type 0
Fits ty value = fits_of ty value ≡ true

items_bytes : (ty : Ty) (values : List Value) → All (Fits ty) values → AreBytes (flat_map (item_bytes ty) values)
items_bytes ty values all = All-to_flat_map (λ byte. byte < 256) (item_bytes ty) values (All-weaker (Fits ty) (λ value. AreBytes (item_bytes ty value)) (item_is_bytes ty) values all)

extremes_bytes : (ty : Ty) (values : List Value) → All (Fits ty) values → AreBytes (minmax_bytes ty values)
extremes_bytes ty values all = All-append (λ byte. byte < 256) _ _ (items_bytes ty _ (best_all (Fits ty) _ values all)) (items_bytes ty _ (best_all (Fits ty) _ values all))

entry_is_bytes : (kind : SkipKind) (ty : Ty) (values : List Value) → All (Fits ty) values → AreBytes (written_entry kind ty values)
entry_is_bytes Minmax ty values all = extremes_bytes ty values all
entry_is_bytes (Set n) ty values all =
    elim (is_too_many n values) as (λ b. AreBytes (if b then u64_bytes 0 else set_bytes ty (distinct_values values))) [
      | true ↦ number_bytes w64 0
      | false ↦ All-append (λ byte. byte < 256) (u64_bytes (length (distinct_values values))) _ (number_bytes w64 (length (distinct_values values))) (items_bytes ty (distinct_values values) (All-distinct_by (Fits ty) (λ a b. is_eq (value_cmp a b)) values all))
    ]

entries_are_bytes : (table : Table) (skip : Skip) (rows : List Row) (granules : List ℕ) → ColumnHolds (column_at table.columns skip.column) skip.column rows → All AreBytes (written_entries table skip rows granules)
entries_are_bytes table skip rows granules holds =
    let ty : Ty = (column_at table.columns skip.column).ty in
    let P : Row → Type 0 = λ row. Fits ty (cell row skip.column) in
    All-mapped AreBytes (λ group. written_entry skip.kind ty (column_values skip.column group)) (entry_rows skip rows granules)
    (All-weaker (All P) (λ group. AreBytes (written_entry skip.kind ty (column_values skip.column group))) (λ group all.
    entry_is_bytes skip.kind ty (column_values skip.column group) (All-mapped (Fits ty) (λ row. cell row skip.column) group all)) (entry_rows skip rows granules)
    (All-groups P skip.granularity (length granules) (granule_rows granules rows) (All-granules P granules rows holds.fit)))

-- ---- marks

abbrev marks_of : List (List ℕ) → List SkipMark
marks_of entries = map written_skip_mark (offsets_from 0 (map length (map written_frames entries)))

moved : (file : List ℕ) (offsets positions : List ℕ) → Pointwise (MarksPosition file) (map mark_at offsets) positions → Pointwise (λ skip_mark position. MarksPosition file skip_mark.mark position) (map written_skip_mark offsets) positions
moved file [] [] each = tt
moved file [] (position ∷ positions) each = absurd each
moved file (offset ∷ offsets) [] each = absurd each
moved file (offset ∷ offsets) (position ∷ positions) each = (each.0, moved file offsets positions each.1)

marks_denote : (entries : List (List ℕ)) → All AreBytes entries
    → Pointwise (λ skip_mark position. MarksPosition (concat (map written_frames entries)) skip_mark.mark position) (marks_of entries) (offsets_from 0 (map length entries))
marks_denote entries are =
    let file : List ℕ = concat (map written_frames entries) in
    let is : IsFileOf ([] ++ (all_blocks entries ++ [])) file = subst (λ blocks. IsFileOf blocks file) (sym (append-nil (all_blocks entries))) (file_is_blocks entries are) in
    moved file (offsets_from 0 (map length (map written_frames entries))) (offsets_from 0 (map length entries)) (starts_denote 0 0 [] entries [] file refl refl is)

from_offset : (offset : ℕ) (sizes : List ℕ) (k : ℕ) (d : SkipMark) → k < length (map written_skip_mark (offsets_from offset sizes)) → offset ≤ (get_or (map written_skip_mark (offsets_from offset sizes)) k d).mark.offset
from_offset offset [] k d inside = absurd (omega (arith, inside))
from_offset offset (size ∷ sizes) zero d inside = omega arith
from_offset offset (size ∷ sizes) (suc k) d inside = let later = from_offset (offset + size) sizes k d (omega (arith, inside)) in omega (arith, later)

never_fall : (offset : ℕ) (sizes : List ℕ) → IsNonDecreasingBy (λ skip_mark. skip_mark.mark.offset) (map written_skip_mark (offsets_from offset sizes))
never_fall offset [] i j d le inside = absurd (omega (arith, inside))
never_fall offset (size ∷ sizes) zero zero d le inside = omega arith
never_fall offset (size ∷ sizes) zero (suc j) d le inside = let later = from_offset (offset + size) sizes j d (omega (arith, inside)) in omega (arith, later)
never_fall offset (size ∷ sizes) (suc i) zero d le inside = absurd (omega (arith, le))
never_fall offset (size ∷ sizes) (suc i) (suc j) d le inside = never_fall (offset + size) sizes i j d (omega (arith, le)) (omega (arith, inside))

-- the offsets of marks in a short file have 64 bits
marks_few : (file : List ℕ) → length file < 2 ^ 64 → (marks : List SkipMark) (positions : List ℕ) → Pointwise (λ skip_mark position. MarksPosition file skip_mark.mark position) marks positions → All (λ skip_mark. skip_mark.mark.offset < 2 ^ 64) marks
marks_few file short =
    Pointwise-firsts (λ skip_mark position. MarksPosition file skip_mark.mark position) (λ skip_mark. skip_mark.mark.offset < 2 ^ 64) (λ skip_mark position at. omega (arith, offset_within file skip_mark.mark position at, short))

-- ---- the index

-- a folder that has the writer's files of an index has the index
pub skip_held : (table : Table) (skip : Skip) (rows : List Row) (folder : Folder) → 1 ≤ skip.granularity → ColumnHolds (column_at table.columns skip.column) skip.column rows → length rows ≤ MAX_ROWS → All (HasFile folder) (skip_files table rows skip)
    → HasSkipIndex table skip (marks_ending (is_small table.settings table.columns rows)) rows (written_granules table.settings table.columns rows) folder
skip_held table skip rows folder coarse holds few files =
    let granules = written_granules table.settings table.columns rows in
    let cut = granules_hold table.settings table.columns rows in
    let entries : List (List ℕ) = written_entries table skip rows granules in
    let bytes = entries_are_bytes table skip rows granules holds in
    let offsets : List ℕ = offsets_from 0 (map length (map written_frames entries)) in
    let short = skip_short table skip rows granules holds.profile holds.fit few (omega (arith, few, few_granules granules rows cut)) in
    let positions = marks_denote entries bytes in
    record {
      entries = entries;
      data_file = concat (map written_frames entries);
      marks = marks_of entries;
      has_data = files 0 no_file (lit< tt);
      has_marks = files 1 no_file (lit< tt) ∙ ap Some (sym (flat_map-map skip_mark_bytes written_skip_mark offsets));
      few_offsets = marks_few (concat (map written_frames entries)) short (marks_of entries) (offsets_from 0 (map length entries)) positions;
      framed = framed_one_by_one entries bytes;
      positions = positions;
      order = never_fall 0 (map length (map written_frames entries));
      summaries = entries_agree table skip rows granules coarse cut;
    }
