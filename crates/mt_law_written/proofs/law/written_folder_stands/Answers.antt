use Rattle.mt_law_written.proofs.StandLemmas.{written_stands}
use Rattle.mt_law_written.proofs.law.written_folder_stands.Goals as goal

pub returns : goal.returns
returns c = written_stands
