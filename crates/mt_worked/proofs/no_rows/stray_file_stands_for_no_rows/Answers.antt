use Rattle.mt_worked.proofs.NoRowsLemmas.{stray}
use Rattle.mt_worked.proofs.no_rows.stray_file_stands_for_no_rows.Goals as goal

pub returns : goal.returns
returns c = stray
