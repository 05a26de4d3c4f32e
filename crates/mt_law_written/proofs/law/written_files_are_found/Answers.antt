use Rattle.mt_law_written.proofs.StandLemmas.{written_found}
use Rattle.mt_law_written.proofs.law.written_files_are_found.Goals as goal

pub returns : goal.returns
returns c = written_found
