use Rattle.std.proofs.Common.{ℕ, List, Ok, refl}
use Rattle.mt_command.proofs.DoneLemmas.{printing_printed}
use Rattle.mt_command.proofs.RefusedLemmas.{for_all_files, printing_refused}
use Rattle.mt_command.specs.Outcomes.{gives}
use Rattle.mt_command.specs.Steps.{of_nothing}
use Rattle.mt_trial.specs.Trial.{trial_text}
use Rattle.mt_trial.proofs.CauseLemmas.{at_rest}
use Rattle.mt_trial.proofs.UnrefusedLemmas.{ended_outside, not_done, not_of_shelf, print_not_of_shelf, print_unrefused, print_whole}
use Rattle.mt_trial.proofs.running.trial.Goals as goal

pub returns-in-Err : goal.returns-in-Err
returns-in-Err g c = record {
  unrefused = ended_outside (trial_text c.args.number c.args.rows) c.in-Err.status c.in-Err.ensures.gives;
  printed = λ done. not_done c.in-Err.status of_nothing of_nothing c.in-Err.ensures.cause done;
  no_shelf = (not_of_shelf c.in-Err.status c.in-Err.ensures.cause, refl);
  performed = printing_refused (λ _. gives (Ok (trial_text c.args.number c.args.rows))) c.in-Err.status _ _ _ _ _ _ _ _ (for_all_files _ _ (λ f. c.in-Err.ensures.gives)) refl (at_rest (List ℕ) c.in-Err.status _ c.in-Err.ensures.cause);
}

pub returns-in-Ok : goal.returns-in-Ok
returns-in-Ok g c =
    let text : List ℕ = trial_text c.args.number c.args.rows in
    rw c.finished.ensures (record {
      unrefused = print_unrefused _ _ _ c.print.result c.print.ensures.printed;
      printed = print_whole text c.in-Ok.text _ _ c.print.result c.in-Ok.ensures.gives (rw c.as_slice.ensures at c.print.ensures.printed);
      no_shelf = (print_not_of_shelf _ _ _ c.print.result c.print.ensures.printed, refl);
      performed = printing_printed (λ _. gives (Ok text)) c.in-Ok.text c.print.result _ _ _ _ _ _ _ _ _ _ (for_all_files _ _ (λ f. c.in-Ok.ensures.gives)) refl refl (rw c.as_slice.ensures at c.print.ensures.printed) c.print.ensures.cause;
    })
