-- The rows of a trial are ready to be written, each half and both together.
use Rattle.std.proofs.Common.{◌≡◌, ◌≢◌, ℕ, ◌≤◌, ◌<◌, arith, lit<, List, [], ◌∷◌, ◌++◌, length, refl, ap, sym, ◌∙◌, Ok}
use Rattle.std.specs.Prelude.{All}
use Rattle.std.proofs.lemmas.Bool.{le-ltb}
use Rattle.std.proofs.lemmas.List.Elements.{All-append, All-nil}
use Rattle.mt_defs.specs.Rows.{Row}
use Rattle.mt_defs.specs.Writer.{written_folder}
use Rattle.mt_defs.proofs.Sorted.{length-sorted_rows, some_sorted_rows}
use Rattle.mt_law_written.specs.Sizes.{files_size}
use Rattle.mt_command.specs.Targets.{within_limit}
use Rattle.mt_command.specs.declared.limits.TheConstants.{MAX_FOLDER}
use Rattle.mt_merging.specs.Inputs.{all_rows}
use Rattle.mt_trial.specs.declared.rows.TheConstants.{MAX_TRIAL_ROWS}
use Rattle.mt_trial.specs.KeptRules.{trial_keeps}
use Rattle.mt_trial.specs.Rows.{half_rows}
use Rattle.mt_trial.specs.Steps.{trial_steps}
use Rattle.mt_trial.specs.Trial.{part_rows, trial_rows, trial_text}
use Rattle.mt_trial.specs.TrialTable.{trial_table}
use Rattle.mt_trial.proofs.FolderLemmas.{trial_size}
use Rattle.mt_trial.proofs.OnlyLemmas.{IsOnly}
use Rattle.mt_trial.proofs.PartLemmas.{PartLaws}
use Rattle.mt_trial.proofs.RowLemmas.{half_some}
use Rattle.mt_trial.proofs.StorableLemmas.{trial_storable}
use Rattle.mt_trial.proofs.TrialOnly.{AreReady, steps_only}
use Rattle.mt_trial.proofs.TrialRows.{IsTrialRow, all_length, all_some, all_trial_rows, half_length, half_trial, sorted_trial}

small : (rows : List Row) → files_size (written_folder trial_table rows) ≤ MAX_FOLDER → within_limit (written_folder trial_table rows) ≡ Ok (written_folder trial_table rows)
small rows few = rw (le-ltb MAX_FOLDER (files_size (written_folder trial_table rows)) few) refl

ready : (rows : List Row) → All IsTrialRow rows → rows ≢ [] → length rows ≤ MAX_TRIAL_ROWS → AreReady rows
ready rows are some few = record { storable = trial_storable trial_keeps rows are some few; small = small rows (trial_size trial_keeps rows are few) }

module _ (number rows : ℕ) (some : 2 ≤ rows) (most : rows ≤ MAX_TRIAL_ROWS) where
  half_ready : (remainder : ℕ) → remainder < 2 → AreReady (half_rows number rows remainder)
  half_ready remainder two = ready (half_rows number rows remainder) (half_trial number rows remainder) (half_some number rows remainder some two) (omega (arith, half_length number rows remainder, most))

  part_ready : (remainder : ℕ) → remainder < 2 → AreReady (part_rows number rows remainder)
  part_ready remainder two =
      let half : List Row = half_rows number rows remainder in
      ready (part_rows number rows remainder) (sorted_trial trial_table.sort half (half_trial number rows remainder)) (some_sorted_rows trial_table.sort half (half_some number rows remainder some two))
      (omega (arith, length-sorted_rows trial_table.sort half, half_length number rows remainder, most))

  abbrev both : List Row
  both = all_rows (part_rows number rows 0 ∷ part_rows number rows 1 ∷ [])

  both_trial : All IsTrialRow both
  both_trial =
      let part : (remainder : ℕ) → All IsTrialRow (part_rows number rows remainder) = λ remainder. sorted_trial trial_table.sort (half_rows number rows remainder) (half_trial number rows remainder) in
      All-append IsTrialRow (part_rows number rows 0) (part_rows number rows 1 ++ []) (part 0) (All-append IsTrialRow (part_rows number rows 1) [] (part 1) (All-nil IsTrialRow))

  both_length : length both ≡ rows
  both_length = sym (length-sorted_rows trial_table.sort both) ∙ all_length trial_table.sort number rows

  both_some : both ≢ []
  both_some none = let nothing : length both ≡ 0 = ap length none in omega (arith, some, nothing, both_length)

  both_ready : AreReady both
  both_ready = ready both both_trial both_some (omega (arith, both_length, most))

  merged_ready : AreReady (trial_rows number rows)
  merged_ready = ready (trial_rows number rows) (all_trial_rows trial_table.sort number rows) (all_some trial_table.sort number rows some) (omega (arith, all_length trial_table.sort number rows, most))

pub trial_only : (laws : PartLaws) (number rows : ℕ) → 2 ≤ rows → rows ≤ MAX_TRIAL_ROWS → IsOnly (trial_steps number rows) (trial_text number rows)
trial_only laws number rows some most =
    steps_only laws number rows (half_ready number rows some most 0 (lit< tt)) (part_ready number rows some most 0 (lit< tt)) (half_ready number rows some most 1 (lit< tt)) (part_ready number rows some most 1 (lit< tt)) (both_ready number rows some most) (merged_ready number rows some most)
