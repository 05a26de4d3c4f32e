-- Groups of granules: a step of the walk over them, and the writer's groups of rows.
use Rattle.std.proofs.Common.{◌≡◌, ℕ, zero, suc, ◌+◌, ◌<◌, ◌≤◌, List, [], ◌∷◌, ◌++◌, length, map, take, drop, refl, ap, sym, ◌∙◌, arith, min}
use Rattle.std.specs.Prelude.{sum}
use Rattle.std.specs.List.{flat_map}
use Rattle.std.proofs.Math.Seq.{take-add}
use Rattle.std.proofs.lemmas.List.{append_assoc, length-drop, take-map, drop-map}
use Rattle.std.proofs.lemmas.List.Concat.{flat_map-cons}
use Rattle.std.proofs.lemmas.List.Sums.{sum_by-cons, sum_by-take-drop}
use Rattle.mt_facts.proofs.Lists.{cut_at, drop_sum, map_map, shorter_without}
use Rattle.mt_types.specs.declared.ty.Ty.{Ty}
use Rattle.mt_types.specs.declared.value.Value.{Value}
use Rattle.mt_table.specs.declared.definition.Table.{Table}
use Rattle.mt_table.specs.declared.skip.Skip.{Skip}
use Rattle.mt_table.specs.declared.skip.SkipKind.{SkipKind}
use Rattle.mt_defs.specs.Granules.{granule_rows}
use Rattle.mt_defs.specs.Metadata.{column_at}
use Rattle.mt_defs.specs.Rows.{Row, cell, column_values}
use Rattle.mt_defs.specs.SkipIndexes.{entry_groups}
use Rattle.mt_defs.specs.WrittenSkips.{written_entry, written_entries}
use Rattle.mt_skip.specs.Groups.{value_groups}

-- a bound on the number of groups that is no less than that of the granules doesn't matter
pub groups_enough : (per m n : ℕ) (granules : List ℕ) (values : List Value) → 1 ≤ per → length granules ≤ m → length granules ≤ n → value_groups per m granules values ≡ value_groups per n granules values
groups_enough per zero zero granules values some low high = refl
groups_enough per zero (suc n) [] values some low high = refl
groups_enough per zero (suc n) (count ∷ granules) values some low high = absurd (omega (arith, low))
groups_enough per (suc m) zero [] values some low high = refl
groups_enough per (suc m) zero (count ∷ granules) values some low high = absurd (omega (arith, high))
groups_enough per (suc m) (suc n) [] values some low high = refl
groups_enough per (suc m) (suc n) (count ∷ granules) values some low high =
    let size = sum (take per (count ∷ granules)) in
    let less = shorter_without per count granules some in
    ap (λ groups. take size values ∷ groups) (groups_enough per m n (drop per (count ∷ granules)) (drop size values) some (omega (arith, less, low)) (omega (arith, less, high)))

-- the first group, and those of what is left
pub groups_step : (per : ℕ) (granules later : List ℕ) (values after : List Value) (size : ℕ) → 1 ≤ per → 0 < length granules → size ≡ sum (take per granules) → later ≡ drop per granules → after ≡ drop size values
    → value_groups per (length granules) granules values ≡ take size values ∷ value_groups per (length later) later after
groups_step per [] later values after size some more size_is later_is after_is = absurd (omega (arith, more))
groups_step per (count ∷ granules) later values after size some more size_is later_is after_is =
    let total = sum (take per (count ∷ granules)) in
    let less = shorter_without per count granules some in
    let rest = groups_enough per (length granules) (length (drop per (count ∷ granules))) (drop per (count ∷ granules)) (drop total values) some less (omega arith) in
    ap (λ groups. take total values ∷ groups) rest ∙ ap (λ s. take s values ∷ value_groups per (length (drop per (count ∷ granules))) (drop per (count ∷ granules)) (drop s values)) (sym size_is)
    ∙ ap (λ ks. take size values ∷ value_groups per (length ks) ks (drop size values)) (sym later_is) ∙ ap (λ vs. take size values ∷ value_groups per (length later) later vs) (sym after_is)

-- ---- the writer's groups of rows

abbrev pub together : List (List Row) → List Row
together granules = flat_map (λ rows. rows) granules

pub rows_together : (per : ℕ) (granules : List ℕ) (rows : List Row) → together (take per (granule_rows granules rows)) ≡ take (sum (take per granules)) rows
rows_together zero granules rows = refl
rows_together (suc per) [] rows = refl
rows_together (suc per) (count ∷ granules) rows =
    let rest = granule_rows granules (drop count rows) in
    let size : sum (count ∷ take per granules) ≡ count + sum (take per granules) = sum_by-cons (λ n. n) count (take per granules) in
    flat_map-cons (λ (some : List Row). some) (take count rows) (take per rest) ∙ ap (λ some. take count rows ++ some) (rows_together per granules (drop count rows))
    ∙ sym (take-add count (sum (take per granules)) rows) ∙ ap (λ n. take n rows) (sym size)

pub rows_behind : (per : ℕ) (granules : List ℕ) (rows : List Row) → drop per (granule_rows granules rows) ≡ granule_rows (drop per granules) (drop (sum (take per granules)) rows)
rows_behind zero granules rows = refl
rows_behind (suc per) [] rows = refl
rows_behind (suc per) (count ∷ granules) rows =
    let size : sum (count ∷ take per granules) ≡ count + sum (take per granules) = sum_by-cons (λ n. n) count (take per granules) in
    rows_behind per granules (drop count rows) ∙ ap (granule_rows (drop per granules)) (sym (drop_sum count (sum (take per granules)) rows) ∙ ap (λ n. drop n rows) (sym size))

-- the values of the groups are those of the groups' rows
groups_of_rows : (column per n : ℕ) (granules : List ℕ) (rows : List Row) → value_groups per n granules (column_values column rows) ≡ map (column_values column) (entry_groups per n (granule_rows granules rows))
groups_of_rows column per zero granules rows = refl
groups_of_rows column per (suc n) [] rows = refl
groups_of_rows column per (suc n) (count ∷ granules) rows =
    let f : Row → Value = λ row. cell row column in
    let all = count ∷ granules in
    let size = sum (take per all) in
    let first : take size (map f rows) ≡ map f (together (take per (granule_rows all rows))) = take-map f size rows ∙ ap (map f) (sym (rows_together per all rows)) in
    let rest : value_groups per n (drop per all) (drop size (map f rows)) ≡ map (column_values column) (entry_groups per n (drop per (granule_rows all rows))) =
    ap (value_groups per n (drop per all)) (drop-map f size rows) ∙ groups_of_rows column per n (drop per all) (drop size rows) ∙ ap (λ some. map (column_values column) (entry_groups per n some)) (sym (rows_behind per all rows)) in
    ap (λ vs. vs ∷ value_groups per n (drop per all) (drop size (map f rows))) first ∙ ap (λ groups. map f (together (take per (granule_rows all rows))) ∷ groups) rest

-- the entries of the groups of values are the writer's
pub entries_written : (table : Table) (skip : Skip) (ty : Ty) (values : List Value) (granules : List ℕ) (rows : List Row) → ty ≡ (column_at table.columns skip.column).ty → values ≡ column_values skip.column rows
    → map (written_entry skip.kind ty) (value_groups skip.granularity (length granules) granules values) ≡ written_entries table skip rows granules
entries_written table skip ty values granules rows ty_is values_are =
    ap (λ t. map (written_entry skip.kind t) (value_groups skip.granularity (length granules) granules values)) ty_is
    ∙ ap (λ vs. map (written_entry skip.kind (column_at table.columns skip.column).ty) (value_groups skip.granularity (length granules) granules vs)) values_are
    ∙ ap (map (written_entry skip.kind (column_at table.columns skip.column).ty)) (groups_of_rows skip.column skip.granularity (length granules) granules rows)
    ∙ map_map (written_entry skip.kind (column_at table.columns skip.column).ty) (column_values skip.column) (entry_groups skip.granularity (length granules) (granule_rows granules rows))

-- ---- a step of the walk

pub walk_step : (kind : SkipKind) (ty : Ty) (per n size : ℕ) (counts group later : List ℕ) (rest covered after : List Value) (made more whole : List (List ℕ)) (entry : List ℕ)
    → 1 ≤ per → 0 < length counts → n ≡ min (length counts) per → group ≡ take n counts → later ≡ drop n counts → size ≡ sum group → covered ≡ take size rest → after ≡ drop size rest
    → entry ≡ written_entry kind ty covered → more ≡ made ++ entry ∷ []
    → made ++ map (written_entry kind ty) (value_groups per (length counts) counts rest) ≡ whole
    → more ++ map (written_entry kind ty) (value_groups per (length later) later after) ≡ whole
walk_step kind ty per n size counts group later rest covered after made more whole entry some left cut group_is later_is size_is covered_is after_is entry_is pushed ahead =
    let both = cut_at per n counts cut in
    let f = written_entry kind ty in
    let groups = value_groups per (length later) later after in
    let step = groups_step per counts later rest after size some left (size_is ∙ ap sum (group_is ∙ both.0)) (later_is ∙ both.1) after_is in
    ap (λ l. l ++ map f groups) pushed ∙ append_assoc made (entry ∷ []) (map f groups) ∙ ap (λ e. made ++ e ∷ map f groups) (entry_is ∙ ap f covered_is) ∙ ap (λ l. made ++ map f l) (sym step) ∙ ahead

-- the rows of the rest of the granules
pub cut_more : (n size : ℕ) (counts group later : List ℕ) (rest after : List Value) → group ≡ take n counts → later ≡ drop n counts → size ≡ sum group → after ≡ drop size rest → sum counts ≡ length rest → sum later ≡ length after
cut_more n size counts group later rest after group_is later_is size_is after_is cut =
    let parts = sum_by-take-drop (λ k. k) counts n in
    omega (arith, parts, cut, size_is, ap sum group_is, ap sum later_is, ap length after_is, length-drop size rest)

-- a group has no more rows than are left
pub group_short : (n : ℕ) (counts group : List ℕ) (rest : List Value) → group ≡ take n counts → sum counts ≡ length rest → sum group ≤ length rest
group_short n counts group rest group_is cut = omega (arith, sum_by-take-drop (λ k. k) counts n, cut, ap sum group_is)
