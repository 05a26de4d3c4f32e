-- What stays true as the status of a command is reported.
use Rattle.std.proofs.Common.{◌≡◌, ◌⊎◌, inl, inr, ℕ, true, Option, Some, None, Ok, ap, sym, ◌∙◌, subst}
use Rattle.mt_command.specs.Plans.{World}
use Rattle.mt_command.specs.declared.status.Status.{Status}
use Rattle.mt_command.specs.declared.status.Status.TheVariants.{Done, ShelfFault, NoMemory}
use Rattle.mt_command.specs.Outcomes.{gives}
use Rattle.mt_command.proofs.ReportedLemmas.{performs_reported, prints_reported, publishes_reported}
use Rattle.mt_merging.specs.Merge.{merge_steps}
use Rattle.mt_select.specs.Select.{select_steps}
use Rattle.mt_show.specs.Show.{show_steps}
use Rattle.mt_command.specs.Status.{is_outside_fault}
use Rattle.mt_trial.specs.Trial.{PrintsTrial, trial_text}
use Rattle.mt_run.specs.Commands.{Command, Write, Check, Rows, Show, Select, Merge, Trial, Runs}
use Rattle.mt_note.specs.Notes.{IsReported}
use Rattle.mt_reading.specs.Reading.{check_steps, rows_steps}
use Rattle.mt_writing.specs.Write.{write_plan}

-- ---- a trial

done_or_outside : (status reported : Status) → IsReported status reported → (status ≡ Done) ⊎ (is_outside_fault status ≡ true) → (reported ≡ Done) ⊎ (is_outside_fault reported ≡ true)
done_or_outside status reported (inl same) ended = subst (λ s. (s ≡ Done) ⊎ (is_outside_fault s ≡ true)) (sym same) ended
done_or_outside status reported (inr (memory, other)) ended = inr (ap is_outside_fault memory)

was_done : (status reported : Status) → IsReported status reported → reported ≡ Done → status ≡ Done
was_done status reported (inl same) done = sym same ∙ done
was_done status reported (inr (memory, other)) done = let never : (let s : Status = NoMemory in s) ≡ Done = sym memory ∙ done in cc

not_of_shelf : (status reported : Status) → IsReported status reported → ¬ (status ≡ ShelfFault) → ¬ (reported ≡ ShelfFault)
not_of_shelf status reported (inl same) never is = never (sym same ∙ is)
not_of_shelf status reported (inr (memory, other)) never is = let no : (let s : Status = NoMemory in s) ≡ ShelfFault = sym memory ∙ is in cc

trial_reported : (number rows : ℕ) (old new : World) (status reported : Status) → IsReported status reported → PrintsTrial number rows old new status → PrintsTrial number rows old new reported
trial_reported number rows old new status reported is runs = record {
  unrefused = done_or_outside status reported is runs.unrefused;
  no_shelf = (not_of_shelf status reported is runs.no_shelf.0, runs.no_shelf.1);
  printed = λ done. runs.printed (was_done status reported is done);
  performed = prints_reported (λ files. gives (Ok (trial_text number rows))) old new status reported is runs.performed;
}

-- ---- any command

-- what a run does of a command holds of the reported status too
pub runs_reported : (command : Option Command) (old new : World) (status reported : Status) → IsReported status reported → Runs command old new status → Runs command old new reported
runs_reported None old new status reported is runs = performs_reported None old new status reported is runs
runs_reported (Some (Write table part)) old new status reported is runs = performs_reported (Some (write_plan table part)) old new status reported is runs
runs_reported (Some (Check table part)) old new status reported is runs = prints_reported (check_steps table part) old new status reported is runs
runs_reported (Some (Rows table part)) old new status reported is runs = prints_reported (rows_steps table part) old new status reported is runs
runs_reported (Some (Show table part)) old new status reported is runs = prints_reported (show_steps table part) old new status reported is runs
runs_reported (Some (Select table part query)) old new status reported is runs = prints_reported (select_steps table part query) old new status reported is runs
runs_reported (Some (Merge table target inputs)) old new status reported is runs = publishes_reported target (merge_steps table target inputs) old new status reported is runs
runs_reported (Some (Trial number rows)) old new status reported is runs = trial_reported number rows old new status reported is runs
