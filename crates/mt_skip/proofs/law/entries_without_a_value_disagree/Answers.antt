use Rattle.mt_skip.proofs.LawLemmas.{lacking_disagree}
use Rattle.mt_skip.proofs.law.entries_without_a_value_disagree.Goals as goal

pub returns : goal.returns
returns c = lacking_disagree
