use Rattle.mt_headline.proofs.OutcomeLemmas.{one_outcome}
use Rattle.mt_headline.proofs.law.parts_have_one_outcome.Goals as goal

pub returns : goal.returns
returns c = one_outcome
