-- Each of the writer's entries is the one of its granules.
use Rattle.std.proofs.Common.{◌≡◌, ◌≢◌, ℕ, zero, suc, ◌+◌, ◌<◌, ◌≤◌, List, [], ◌∷◌, length, map, take, drop, ap, arith}
use Rattle.std.specs.Prelude.{All, sum}
use Rattle.std.specs.List.{flat_map}
use Rattle.std.proofs.lemmas.List.{length-append, length-drop, length-take-le}
use Rattle.std.proofs.lemmas.List.Concat.{flat_map-cons}
use Rattle.std.proofs.lemmas.List.Sums.{sum_by-cons}
use Rattle.mt_types.specs.declared.ty.Ty.{Ty}
use Rattle.mt_table.specs.declared.definition.Table.{Table}
use Rattle.mt_table.specs.declared.skip.Skip.{Skip}
use Rattle.mt_table.specs.declared.skip.SkipKind.{SkipKind}
use Rattle.mt_defs.specs.Granules.{AreGranules, granule_rows}
use Rattle.mt_defs.specs.Lists.{Pointwise}
use Rattle.mt_defs.specs.Metadata.{column_at}
use Rattle.mt_defs.specs.Rows.{Row, column_values}
use Rattle.mt_defs.specs.SkipIndexes.{Summarizes, entry_groups, entry_rows}
use Rattle.mt_defs.specs.WrittenSkips.{written_entries, written_entry}
use Rattle.mt_skip.proofs.LawLemmas.{written_agree}

-- no list is empty
abbrev AllSome : List (List Row) → Type 0
AllSome [] = Unit {0}
AllSome (rows ∷ more) = (0 < length rows) × AllSome more

some_drop : (n : ℕ) (granules : List (List Row)) → AllSome granules → AllSome (drop n granules)
some_drop zero granules all = all
some_drop (suc n) [] all = tt
some_drop (suc n) (rows ∷ granules) all = some_drop n granules all.1

granules_some : (granules : List ℕ) (rows : List Row) → All (λ count. 1 ≤ count) granules → sum granules ≤ length rows → AllSome (granule_rows granules rows)
granules_some [] rows each fit = tt
granules_some (count ∷ granules) rows each fit =
    let whole : sum (count ∷ granules) ≡ count + sum granules = sum_by-cons (λ n. n) count granules in
    let first : 1 ≤ count = each 0 0 (omega arith) in
    let size = length-take-le count rows (omega (arith, fit, whole)) in
    (omega (arith, first, size), granules_some granules (drop count rows) (λ k d inside. each (suc k) d (omega (arith, inside))) (omega (arith, fit, whole, length-drop count rows)))

group_some : (per : ℕ) (rows : List Row) (granules : List (List Row)) → 1 ≤ per → 0 < length rows → 0 < length (flat_map (λ some. some) (take per (rows ∷ granules)))
group_some zero rows granules some long = absurd (omega (arith, some))
group_some (suc per) rows granules some long =
    let parts = ap length (flat_map-cons (λ (some : List Row). some) rows (take per granules)) in
    omega (arith, long, parts, length-append rows (flat_map (λ some. some) (take per granules)))

column_some : (column : ℕ) (rows : List Row) → 0 < length rows → column_values column rows ≢ []
column_some column [] long = absurd (omega (arith, long))
column_some column (row ∷ rows) long = λ e. cc

groups_agree : (kind : SkipKind) (ty : Ty) (column per n : ℕ) (granules : List (List Row)) → 1 ≤ per → AllSome granules
    → Pointwise (λ group entry. Summarizes kind ty (column_values column group) entry) (entry_groups per n granules) (map (λ group. written_entry kind ty (column_values column group)) (entry_groups per n granules))
groups_agree kind ty column per zero granules some all = tt
groups_agree kind ty column per (suc n) [] some all = tt
groups_agree kind ty column per (suc n) (rows ∷ granules) some all = (
  written_agree kind ty (column_values column (flat_map (λ more. more) (take per (rows ∷ granules)))) (column_some column (flat_map (λ more. more) (take per (rows ∷ granules))) (group_some per rows granules some all.0)),
  groups_agree kind ty column per n (drop per (rows ∷ granules)) some (some_drop per (rows ∷ granules) all),
)

-- each of the writer's entries is the one of its granules
pub entries_agree : (table : Table) (skip : Skip) (rows : List Row) (granules : List ℕ) → 1 ≤ skip.granularity → AreGranules granules rows
    → Pointwise (λ group entry. Summarizes skip.kind (column_at table.columns skip.column).ty (column_values skip.column group) entry) (entry_rows skip rows granules) (written_entries table skip rows granules)
entries_agree table skip rows granules some are =
    let all = are.all in
    groups_agree skip.kind (column_at table.columns skip.column).ty skip.column skip.granularity (length granules) (granule_rows granules rows) some (granules_some granules rows are.not_empty (omega (arith, all)))
