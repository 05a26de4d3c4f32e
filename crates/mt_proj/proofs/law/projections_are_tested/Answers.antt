use Rattle.mt_proj.proofs.TestLemmas.{projections_tested}
use Rattle.mt_proj.proofs.law.projections_are_tested.Goals as goal

pub returns : goal.returns
returns c = projections_tested
