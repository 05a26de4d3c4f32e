-- The writer's granules hold all rows, each at least one.
use Rattle.std.proofs.Common.{◌≡◌, ℕ, ◌+◌, ◌≤◌, Bool, true, false, List, [], ◌∷◌, ◌++◌, length, arith, ◌∙◌}
use Rattle.std.specs.Prelude.{All, sum, if◌then◌else◌}
use Rattle.std.proofs.lemmas.List.{length-append}
use Rattle.std.proofs.lemmas.List.Elements.{All-nil, All-cons}
use Rattle.std.proofs.lemmas.List.Sums.{sum_by-cons}
use Rattle.mt_table.specs.declared.column.Column.{Column}
use Rattle.mt_table.specs.declared.settings.Settings.{Settings}
use Rattle.mt_defs.specs.Granules.{AreGranules}
use Rattle.mt_defs.specs.Rows.{Row}
use Rattle.mt_defs.specs.WrittenGranules.{granules_from, is_full, written_granules}

granules_sum_from : (full : List Row → Bool) (begun rows : List Row) → sum (granules_from full begun rows) ≡ length begun + length rows
granules_sum_from full [] [] = omega arith
granules_sum_from full (b ∷ begun) [] = omega arith
granules_sum_from full begun (row ∷ rows) =
    let joined = begun ++ row ∷ [] in
    let count : length joined ≡ length begun + length (row ∷ []) = length-append begun (row ∷ []) in
    let none : sum (granules_from full [] rows) ≡ length rows = granules_sum_from full [] rows ∙ omega arith in
    let on : sum (granules_from full joined rows) ≡ length joined + length rows = granules_sum_from full joined rows in
    let total : sum (length joined ∷ granules_from full [] rows) ≡ length joined + sum (granules_from full [] rows) = sum_by-cons (λ x. x) (length joined) (granules_from full [] rows) in
    elim (full joined) as (λ b. sum (if b then length joined ∷ granules_from full [] rows else granules_from full joined rows) ≡ length begun + length (row ∷ rows)) [
      | true ↦ omega arith
      | false ↦ omega arith
    ]

abbrev HasRows : ℕ → Type 0
HasRows count = 1 ≤ count

not_empty_from : (full : List Row → Bool) (begun rows : List Row) → All HasRows (granules_from full begun rows)
not_empty_from full [] [] = All-nil HasRows
not_empty_from full (b ∷ begun) [] = All-cons HasRows (length (b ∷ begun)) [] (omega arith) (All-nil HasRows)
not_empty_from full begun (row ∷ rows) =
    let joined = begun ++ row ∷ [] in
    let count : length joined ≡ length begun + length (row ∷ []) = length-append begun (row ∷ []) in
    elim (full joined) as (λ b. All HasRows (if b then length joined ∷ granules_from full [] rows else granules_from full joined rows)) [
      | true ↦ All-cons HasRows (length joined) (granules_from full [] rows) (omega arith) (not_empty_from full [] rows)
      | false ↦ not_empty_from full joined rows
    ]

pub granules_hold : (settings : Settings) (columns : List Column) (rows : List Row) → AreGranules (written_granules settings columns rows) rows
granules_hold settings columns rows = record {
  not_empty = not_empty_from (is_full settings columns) [] rows;
  all = granules_sum_from (is_full settings columns) [] rows ∙ omega arith;
}
