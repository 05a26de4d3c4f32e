use Rattle.mt_run.proofs.Reported.{runs_reported}
use Rattle.mt_run.proofs.top.run.Goals as goal

pub returns-clause-meets : goal.returns-clause-meets
returns-clause-meets g c = runs_reported _ _ _ c.perform-status.result c.report.result c.report.ensures.same c.perform-status.ensures
