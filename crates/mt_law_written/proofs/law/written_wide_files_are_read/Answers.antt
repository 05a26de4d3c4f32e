use Rattle.mt_law_written.proofs.ReadAgainLemmas.{wide_again}
use Rattle.mt_law_written.proofs.law.written_wide_files_are_read.Goals as goal

pub returns : goal.returns
returns c = wide_again
