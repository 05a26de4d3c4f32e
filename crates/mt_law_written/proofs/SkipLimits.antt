-- The writer's data file of a skip index is short: its entries have few bytes for each row and each granule.
use Rattle.std.proofs.Common.{◌≡◌, ℕ, zero, suc, ◌+◌, ◌*◌, ◌≤◌, ◌<◌, ◌^◌, true, false, List, [], ◌∷◌, length, map, take, drop, ap, arith, length-append}
use Rattle.std.specs.Prelude.{All, if◌then◌else◌}
use Rattle.std.specs.List.{concat, flat_map, sum_by}
use Rattle.std.proofs.Math.Nat.{mul-le-mul_left}
use Rattle.std.proofs.lemmas.List.{length-map, take-append-drop}
use Rattle.std.proofs.lemmas.List.Concat.{length-flat_map}
use Rattle.std.proofs.lemmas.List.Elements.{All-head, All-map, All-tail, All-weaker}
use Rattle.std.proofs.lemmas.List.Sums.{sum_by-append, sum_by-cons}
use Rattle.std.specs.Ordering.{is_eq}
use Rattle.mt_types.specs.Fits.{fits_of}
use Rattle.mt_types.specs.Items.{item_bytes}
use Rattle.mt_types.specs.Order.{value_cmp}
use Rattle.mt_types.specs.Profile.{is_profile}
use Rattle.mt_types.specs.declared.ty.Ty.{Ty}
use Rattle.mt_types.specs.declared.value.Value.{Value}
use Rattle.mt_table.specs.declared.definition.Table.{Table}
use Rattle.mt_table.specs.declared.limits.TheConstants.{MAX_ROWS}
use Rattle.mt_table.specs.declared.skip.Skip.{Skip}
use Rattle.mt_table.specs.declared.skip.SkipKind.{SkipKind}
use Rattle.mt_table.specs.declared.skip.SkipKind.TheVariants.{Minmax, Set}
use Rattle.mt_defs.specs.Granules.{granule_rows}
use Rattle.mt_defs.specs.Marks.{u64_bytes}
use Rattle.mt_defs.specs.Metadata.{column_at}
use Rattle.mt_defs.specs.Rows.{Row, cell, column_values}
use Rattle.mt_defs.specs.SkipIndexes.{distinct_values, entry_groups, entry_rows, is_too_many, set_bytes}
use Rattle.mt_defs.specs.WrittenFrames.{written_frames}
use Rattle.mt_defs.specs.WrittenSkips.{written_entries, written_entry}
use Rattle.mt_defs.proofs.ListLemmas.{All-distinct_by, length-distinct_by}
use Rattle.mt_law_written.proofs.ListLemmas.{All-granules, All-groups}
use Rattle.mt_law_written.proofs.FrameLimits.{framed_size}
use Rattle.mt_law_written.proofs.ItemLimits.{item_within}
use Rattle.mt_law_written.proofs.LevelLimits.{item_limit}
use Rattle.mt_law_written.proofs.MinmaxSizes.{HaveItems, minmax_size}
use Rattle.mt_law_written.proofs.SumLemmas.{runs_size}

-- ---- the rows of the groups

granules_rows : (granules : List ℕ) (rows : List Row) → sum_by length (granule_rows granules rows) ≤ length rows
granules_rows [] rows = omega arith
granules_rows (count ∷ granules) rows =
    let rest = granules_rows granules (drop count rows) in
    let both = length-append (take count rows) (drop count rows) in
    omega (arith, rest, both, ap length (take-append-drop count rows), sum_by-cons {X = List Row} length (take count rows) (granule_rows granules (drop count rows)))

groups_rows : (per_entry most : ℕ) (parts : List (List Row)) → sum_by length (entry_groups per_entry most parts) ≤ sum_by length parts
groups_rows per_entry zero parts = omega arith
groups_rows per_entry (suc most) [] = omega arith
groups_rows per_entry (suc most) (rows ∷ parts) =
    let first = take per_entry (rows ∷ parts) in
    let left = drop per_entry (rows ∷ parts) in
    let here = length-flat_map (λ (rows : List Row). rows) first in
    let both = sum_by-append {X = List Row} length first left in
    omega (arith, groups_rows per_entry most left, here, both, ap (sum_by length) (take-append-drop per_entry (rows ∷ parts)), sum_by-cons {X = List Row} length (flat_map (λ rows. rows) first) (entry_groups per_entry most left))

pub groups_few : (per_entry most : ℕ) (parts : List (List Row)) → length (entry_groups per_entry most parts) ≤ most
groups_few per_entry zero parts = omega arith
groups_few per_entry (suc most) [] = omega arith
groups_few per_entry (suc most) (rows ∷ parts) = omega (arith, groups_few per_entry most (drop per_entry (rows ∷ parts)))

-- ---- one entry

-- two items, or 8 bytes and an item for each row
abbrev entry_limit : ℕ
entry_limit = 2 ^ 26

set_size : (ty : Ty) (values : List Value) → HaveItems ty item_limit values → length (set_bytes ty (distinct_values values)) ≤ 8 + item_limit * length values
set_size ty values has =
    let distinct : List Value = distinct_values values in
    let size = runs_size (item_bytes ty) item_limit distinct (All-distinct_by (λ value. length (item_bytes ty value) ≤ item_limit) (λ a b. is_eq (value_cmp a b)) values has) in
    omega (arith, size, mul-le-mul_left item_limit (length-distinct_by (λ a b. is_eq (value_cmp a b)) values), length-append (u64_bytes (length distinct)) (flat_map (item_bytes ty) distinct))

entry_size : (kind : SkipKind) (ty : Ty) (values : List Value) → HaveItems ty item_limit values → length (written_entry kind ty values) ≤ entry_limit * (1 + length values)
entry_size Minmax ty values has = omega (arith, minmax_size ty values item_limit has)
entry_size (Set max_rows) ty values has =
    elim (is_too_many max_rows values) as (λ many. length (if many then u64_bytes 0 else set_bytes ty (distinct_values values)) ≤ entry_limit * (1 + length values)) [
      | true ↦ omega arith
      | false ↦ omega (arith, set_size ty values has)
    ]

-- ---- all entries

payloads_size : (payloads : List (List ℕ)) → length (concat (map written_frames payloads)) ≤ 26 * sum_by length payloads
payloads_size [] = omega arith
payloads_size (payload ∷ payloads) =
    omega (arith, payloads_size payloads, framed_size payload, length-append (written_frames payload) (concat (map written_frames payloads)), sum_by-cons {X = List ℕ} length payload payloads)

entries_size : (entry : List Row → List ℕ) (groups : List (List Row)) → All (λ group. length (entry group) ≤ entry_limit * (1 + length group)) groups → sum_by length (map entry groups) ≤ entry_limit * (length groups + sum_by length groups)
entries_size entry [] each = omega arith
entries_size entry (group ∷ groups) each =
    let here : length (entry group) ≤ entry_limit * (1 + length group) = All-head (λ group. length (entry group) ≤ entry_limit * (1 + length group)) group groups each in
    let rest = entries_size entry groups (All-tail (λ group. length (entry group) ≤ entry_limit * (1 + length group)) group groups each) in
    omega (arith, here, rest, sum_by-cons {X = List ℕ} length (entry group) (map entry groups), sum_by-cons {X = List Row} length group groups)

pub skip_short : (table : Table) (skip : Skip) (rows : List Row) (granules : List ℕ) → is_profile (column_at table.columns skip.column).ty ≡ true
    → All (λ row. fits_of (column_at table.columns skip.column).ty (cell row skip.column) ≡ true) rows → length rows ≤ MAX_ROWS → length granules ≤ MAX_ROWS
    → length (concat (map written_frames (written_entries table skip rows granules))) < 2 ^ 64
skip_short table skip rows granules profile fit few_rows few_granules =
    let ty : Ty = (column_at table.columns skip.column).ty in
    let Fits : Row → Type 0 = λ row. fits_of ty (cell row skip.column) ≡ true in
    let entry : List Row → List ℕ = λ group. written_entry skip.kind ty (column_values skip.column group) in
    let parts : List (List Row) = granule_rows granules rows in
    let groups : List (List Row) = entry_rows skip rows granules in
    let each : All (λ group. length (entry group) ≤ entry_limit * (1 + length group)) groups =
    All-weaker (All Fits) (λ group. length (entry group) ≤ entry_limit * (1 + length group)) (λ group fits.
    let has : HaveItems ty item_limit (column_values skip.column group) =
    All-map (λ value. length (item_bytes ty value) ≤ item_limit) (λ row. cell row skip.column) group (All-weaker Fits (λ row. length (item_bytes ty (cell row skip.column)) ≤ item_limit) (λ row fits. item_within ty (cell row skip.column) profile fits) group fits) in
    omega (arith, entry_size skip.kind ty (column_values skip.column group) has, length-map group (λ row. cell row skip.column))) groups
    (All-groups Fits skip.granularity (length granules) parts (All-granules Fits granules rows fit)) in
    omega (arith, few_rows, few_granules, payloads_size (map entry groups), entries_size entry groups each, groups_few skip.granularity (length granules) parts, groups_rows skip.granularity (length granules) parts, granules_rows granules rows)
