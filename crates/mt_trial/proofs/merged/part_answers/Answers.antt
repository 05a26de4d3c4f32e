use Rattle.mt_trial.proofs.MergedLemmas.{part_answered, part_refused}
use Rattle.mt_trial.proofs.merged.part_answers.Goals as goal

pub returns-in-Err-clause-gives : goal.returns-in-Err-clause-gives
returns-in-Err-clause-gives g c = part_refused c.args.table.now c.in-Err.status _ c.in-Err.ensures.gives

pub returns-clause-gives : goal.returns-clause-gives
returns-clause-gives g c = part_answered c.args.table.now c.in-Ok.accepted c.answers_of.result _ c.in-Ok.ensures.gives (rw c.as_slice.ensures at c.answers_of.ensures.gives)
