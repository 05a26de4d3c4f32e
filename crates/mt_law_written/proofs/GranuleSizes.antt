-- The writer's granules: how many there are, and the bytes of what is made of each.
use Rattle.std.proofs.Common.{◌≡◌, ℕ, ◌+◌, ◌*◌, ◌≤◌, Bool, true, false, List, [], ◌∷◌, ◌++◌, length, take, drop, arith, length-append}
use Rattle.std.specs.Prelude.{All, if◌then◌else◌}
use Rattle.std.specs.List.{flat_map}
use Rattle.std.proofs.lemmas.List.Elements.{All-drop, All-take}
use Rattle.mt_table.specs.declared.column.Column.{Column}
use Rattle.mt_table.specs.declared.settings.Settings.{Settings}
use Rattle.mt_defs.specs.Granules.{granule_rows}
use Rattle.mt_defs.specs.Rows.{Row}
use Rattle.mt_defs.specs.WrittenGranules.{granules_from, is_full, written_granules}
use Rattle.mt_law_written.proofs.SumLemmas.{cut_size}

-- those of a granule that is begun, and of the rows after it
few_from : (full : List Row → Bool) (begun rows : List Row) → length (granules_from full begun rows) ≤ length begun + length rows
few_from full [] [] = omega arith
few_from full (first ∷ begun) [] = omega arith
few_from full begun (row ∷ rows) =
    let joined = begun ++ row ∷ [] in
    let count : length joined ≡ length begun + length (row ∷ []) = length-append begun (row ∷ []) in
    let none : length (granules_from full [] rows) ≤ length rows = omega (arith, few_from full [] rows) in
    let on : length (granules_from full joined rows) ≤ length joined + length rows = few_from full joined rows in
    elim (full joined) as (λ b. length (if b then length joined ∷ granules_from full [] rows else granules_from full joined rows) ≤ length begun + length (row ∷ rows)) [
      | true ↦ omega (arith, none)
      | false ↦ omega (arith, on, count)
    ]

-- no more granules than rows
pub granules_few : (settings : Settings) (columns : List Column) (rows : List Row) → length (written_granules settings columns rows) ≤ length rows
granules_few settings columns rows = omega (arith, few_from (is_full settings columns) [] rows)

-- what is made of each granule has at most so many bytes for each of its rows
pub granules_size : (P : Row → Type 0) (width : ℕ) (f : List Row → List ℕ) → ((granule : List Row) → All P granule → length (f granule) ≤ width * length granule) → (granules : List ℕ) (rows : List Row) → All P rows
    → length (flat_map f (granule_rows granules rows)) ≤ width * length rows
granules_size P width f each [] rows all = omega arith
granules_size P width f each (count ∷ granules) rows all =
    let here = each (take count rows) (All-take P count rows all) in
    let rest = granules_size P width f each granules (drop count rows) (All-drop P count rows all) in
    let joined = length-append (f (take count rows)) (flat_map f (granule_rows granules (drop count rows))) in
    omega (arith, here, rest, joined, cut_size width count rows)
