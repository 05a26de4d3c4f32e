use Rattle.mt_law_written.proofs.PathLemmas.{written_paths}
use Rattle.mt_law_written.proofs.law.written_names_are_paths.Goals as goal

pub returns : goal.returns
returns c = written_paths
