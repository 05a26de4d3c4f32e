use Rattle.mt_worked.proofs.NoRowsLemmas.{mark_off}
use Rattle.mt_worked.proofs.no_rows.mark_off_by_one_stands_for_no_rows.Goals as goal

pub returns : goal.returns
returns c = mark_off
