-- A trial has one outcome: its text.
use Rattle.std.proofs.Common.{◌≡◌, ℕ, false, List, [], ◌∷◌, map, refl, ap, subst, sym, Ok}
use Rattle.std.specs.Prelude.{codes}
use Rattle.mt_fault.specs.declared.file.FileBytes.{FileBytes}
use Rattle.mt_shelf.specs.Files.{Files, stands}
use Rattle.mt_shelf.specs.Held.{files_in, pair_of}
use Rattle.mt_defs.specs.Rows.{Row}
use Rattle.mt_defs.specs.Writer.{written_folder}
use Rattle.mt_command.specs.Parts.{part_steps}
use Rattle.mt_command.specs.Status.{refused_by}
use Rattle.mt_command.specs.Tables.{table_of}
use Rattle.mt_command.specs.Targets.{within_limit}
use Rattle.mt_command.specs.declared.status.Status.TheVariants.{BadTable}
use Rattle.mt_headline.specs.Storable.{AreStorable}
use Rattle.mt_merging.specs.Inputs.{all_rows, folder_of_rows}
use Rattle.mt_merging.specs.Merge.{merge_table_steps}
use Rattle.mt_trial.specs.Rows.{half_rows}
use Rattle.mt_trial.specs.Steps.{answers_of, half_folder, half_names, merge_answers, part_answers, trial_steps, two_parts, with_part}
use Rattle.mt_trial.specs.Tables.{trial_table_text}
use Rattle.mt_trial.specs.Trial.{part_rows, trial_rows, trial_text}
use Rattle.mt_trial.specs.TrialTable.{trial_table}
use Rattle.mt_trial.proofs.AnswersOnly.{answers_only}
use Rattle.mt_trial.proofs.FreeLemmas.{free_gained, none_stands}
use Rattle.mt_trial.proofs.MergeOnly.{free_by, merge_only}
use Rattle.mt_trial.proofs.OnlyLemmas.{IsOnly, given_only, then_only}
use Rattle.mt_trial.proofs.PartLemmas.{HasPart, PartLaws, part_published, part_stays}
use Rattle.mt_trial.proofs.TableLemmas.{trial_table_read}

-- rows of which a part of the table is written, in any order
pub record AreReady (rows : List Row) : Type 0 where
  pub storable : AreStorable trial_table rows
  pub small : within_limit (written_folder trial_table rows) ≡ Ok (written_folder trial_table rows)

abbrev folder : List Row → List FileBytes
folder rows = written_folder trial_table rows

table_given : table_of trial_table_text ≡ Ok trial_table
unfolding table_of
table_given = ap (refused_by BadTable) trial_table_read

module _ (laws : PartLaws) (number rows : ℕ) where
  abbrev even : List Row
  even = part_rows number rows 0

  abbrev odd : List Row
  odd = part_rows number rows 1

  abbrev merged : List Row
  merged = trial_rows number rows

  abbrev first : Files
  first = with_part (codes "even") (folder even) (files_in [])

  abbrev both : Files
  both = two_parts (folder even) (folder odd)

  abbrev all : Files
  all = with_part (codes "merged") (folder merged) both

  module _ (ready_even : AreReady (half_rows number rows 0)) (sorted_even : AreReady even) (ready_odd : AreReady (half_rows number rows 1)) (sorted_odd : AreReady odd) (ready_all : AreReady (all_rows (even ∷ odd ∷ []))) (ready_merged : AreReady merged) where
    -- ---- the files

    odd_free : stands (codes "odd") first ≡ false
    odd_free = free_gained (codes "odd") (codes "even") (map pair_of (folder even)) (files_in []) (λ name. refl) (none_stands (codes "odd"))

    merged_free : stands (codes "merged") both ≡ false
    merged_free = free_gained (codes "merged") (codes "odd") (map pair_of (folder odd)) first (λ name. refl) (free_gained (codes "merged") (codes "even") (map pair_of (folder even)) (files_in []) (λ name. refl) (none_stands (codes "merged")))

    -- ---- the parts

    has_even : HasPart trial_table (codes "even") even both
    has_even =
        part_stays laws trial_table (codes "even") (codes "odd") even (folder odd) first refl refl
        (part_published laws trial_table (half_rows number rows 0) (codes "even") (files_in []) ready_even.storable (free_by (codes "even") (files_in []) (none_stands (codes "even"))) sorted_even.small)

    has_odd : HasPart trial_table (codes "odd") odd both
    has_odd = part_published laws trial_table (half_rows number rows 1) (codes "odd") first ready_odd.storable (free_by (codes "odd") first odd_free) sorted_odd.small

    has_merged : HasPart trial_table (codes "merged") merged all
    has_merged = part_published laws trial_table (all_rows (even ∷ odd ∷ [])) (codes "merged") both ready_all.storable (free_by (codes "merged") both merged_free) ready_merged.small

    -- ---- the steps

    folder_made : folder_of_rows trial_table merged ≡ Ok (folder merged)
    folder_made = rw ready_merged.storable.projection_limit ready_merged.small

    part_only : IsOnly (part_answers trial_table all) (trial_text number rows)
    part_only =
        then_only (part_steps trial_table (codes "merged") all) _ has_merged.accepted (trial_text number rows) has_merged.only
        (subst (λ found. IsOnly (answers_of trial_table found) (trial_text number rows)) (sym has_merged.same) (answers_only merged))

    both_only : IsOnly (merge_answers trial_table both) (trial_text number rows)
    both_only =
        then_only (merge_table_steps trial_table (codes "merged") half_names both) _ (folder merged) (trial_text number rows)
        (merge_only trial_table (codes "merged") even odd both (folder merged) has_even has_odd merged_free sorted_even.storable ready_all.storable folder_made) part_only

    pub steps_only : IsOnly (trial_steps number rows) (trial_text number rows)
    steps_only =
        then_only _ _ trial_table (trial_text number rows) (given_only (table_of trial_table_text) trial_table table_given)
        (then_only _ _ (folder even) (trial_text number rows) (given_only (half_folder trial_table number rows 0) (folder even) sorted_even.small)
        (then_only _ _ (folder odd) (trial_text number rows) (given_only (half_folder trial_table number rows 1) (folder odd) sorted_odd.small) both_only))
