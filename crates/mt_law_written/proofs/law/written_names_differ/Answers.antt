use Rattle.mt_law_written.proofs.StandLemmas.{written_differ}
use Rattle.mt_law_written.proofs.law.written_names_differ.Goals as goal

pub returns : goal.returns
returns c = written_differ
