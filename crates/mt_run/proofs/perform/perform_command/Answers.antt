use Rattle.mt_run.proofs.perform.perform_command.Goals as goal

pub returns-in-Merge : goal.returns-in-Merge
returns-in-Merge g c = rw c.in-Merge.is c.merge.ensures
