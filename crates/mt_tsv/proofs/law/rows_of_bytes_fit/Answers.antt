use Rattle.mt_tsv.proofs.RowsFit.{rows_fit}
use Rattle.mt_tsv.proofs.law.rows_of_bytes_fit.Goals as goal

pub returns : goal.returns
returns c = rows_fit
