use Rattle.mt_skip.proofs.TestLemmas.{summaries_tested}
use Rattle.mt_skip.proofs.law.summaries_are_tested.Goals as goal

pub returns : goal.returns
returns c = summaries_tested
