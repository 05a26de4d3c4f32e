use Rattle.mt_stored.proofs.OrderLemmas.{none_more}
use Rattle.mt_stored.proofs.law.other_rows_add_nothing.Goals as goal

pub returns : goal.returns
returns c = none_more
