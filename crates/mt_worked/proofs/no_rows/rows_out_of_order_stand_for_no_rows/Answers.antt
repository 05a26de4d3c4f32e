use Rattle.mt_worked.proofs.NoRowsLemmas.{out_of_order}
use Rattle.mt_worked.proofs.no_rows.rows_out_of_order_stand_for_no_rows.Goals as goal

pub returns : goal.returns
returns c = out_of_order
