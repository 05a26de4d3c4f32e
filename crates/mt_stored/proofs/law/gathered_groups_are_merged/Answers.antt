use Rattle.mt_stored.proofs.LawLemmas.{begun}
use Rattle.mt_stored.proofs.law.gathered_groups_are_merged.Goals as goal

pub returns : goal.returns
returns c = begun
