-- What `trial` prints: docs/CLI.md, "trial".
use Rattle.std.specs.Prelude.{◌≡◌, ◌⊎◌, ℕ, true, List, [], ◌∷◌, ◌++◌, length, codes, Ok}
use Rattle.std.specs.Fmt.{decimal}
use Rattle.std.specs.Io.KnownBytes.{append_known}
use Rattle.mt_fold.specs.Answer.{answer_text}
use Rattle.mt_defs.specs.Rows.{Row}
use Rattle.mt_defs.specs.Sorting.{merged_rows, sorted_rows}
use Rattle.mt_command.specs.Commands.{PrintsTextOf}
use Rattle.mt_command.specs.Outcomes.{gives}
use Rattle.mt_command.specs.Plans.{World}
use Rattle.mt_command.specs.Status.{is_outside_fault}
use Rattle.mt_command.specs.declared.status.Status.{Status}
use Rattle.mt_command.specs.declared.status.Status.TheVariants.{Done, ShelfFault}
use Rattle.mt_trial.specs.Queries.{totals_query, groups_query, great_query}
use Rattle.mt_trial.specs.Rows.{half_rows}
use Rattle.mt_trial.specs.TrialTable.{trial_table}

-- the rows at even places, or at odd ones, in key order
abbrev pub part_rows : (number rows remainder : ℕ) → List Row
part_rows number rows remainder = sorted_rows trial_table.sort (half_rows number rows remainder)

-- the rows of both, merged
abbrev pub trial_rows : (number rows : ℕ) → List Row
trial_rows number rows = merged_rows trial_table.sort (part_rows number rows 0 ∷ part_rows number rows 1 ∷ [])

-- how many rows there are
abbrev pub rows_line : List Row → List ℕ
rows_line rows = codes "rows " ++ decimal (length rows) ++ codes "\n"

-- how many rows there are, and the answers of the three queries
abbrev pub answers_over : List Row → List ℕ
answers_over rows =
    rows_line rows ++ answer_text trial_table totals_query rows ++ answer_text trial_table groups_query rows ++ answer_text trial_table great_query rows

-- these of the merged rows
abbrev pub trial_text : (number rows : ℕ) → List ℕ
trial_text number rows = answers_over (trial_rows number rows)

-- a run that prints this text. It looks at no file and no input, so whatever these are, it isn't refused, the whole
-- text is printed where it is Done, and no shelf fails
pub record PrintsTrial (number rows : ℕ) (old new : World) (status : Status) : Type 0 where
  pub unrefused : (status ≡ Done) ⊎ (is_outside_fault status ≡ true)
  pub printed : status ≡ Done → new.written ≡ append_known old.written (trial_text number rows)
  pub no_shelf : ¬ (status ≡ ShelfFault) × (new.shelf_faults ≡ old.shelf_faults)
  pub performed : PrintsTextOf (λ files. gives (Ok (trial_text number rows))) old new status
