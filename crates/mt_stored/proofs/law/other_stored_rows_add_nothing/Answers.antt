use Rattle.mt_stored.proofs.LawLemmas.{none_stored}
use Rattle.mt_stored.proofs.law.other_stored_rows_add_nothing.Goals as goal

pub returns : goal.returns
returns c = none_stored
