use Rattle.mt_proj.proofs.LawLemmas.{written_stand}
use Rattle.mt_proj.proofs.law.written_rows_stand.Goals as goal

pub returns : goal.returns
returns c = written_stand
