use Rattle.mt_worked.proofs.NoRowsLemmas.{sizes_disagree}
use Rattle.mt_worked.proofs.no_rows.sizes_that_disagree_stand_for_no_rows.Goals as goal

pub returns : goal.returns
returns c = sizes_disagree
