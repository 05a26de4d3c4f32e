use Rattle.mt_worked.proofs.NoRowsLemmas.{short_index}
use Rattle.mt_worked.proofs.no_rows.short_index_stands_for_no_rows.Goals as goal

pub returns : goal.returns
returns c = short_index
