use Rattle.mt_law_written.proofs.ReadAgainLemmas.{compact_again}
use Rattle.mt_law_written.proofs.law.written_compact_files_are_read.Goals as goal

pub returns : goal.returns
returns c = compact_again
