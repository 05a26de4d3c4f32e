use Rattle.mt_law_written.proofs.StandLemmas.{definition_holds}
use Rattle.mt_law_written.proofs.law.written_definition_holds_rows.Goals as goal

pub returns : goal.returns
returns c = definition_holds
