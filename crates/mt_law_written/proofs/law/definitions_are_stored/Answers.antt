use Rattle.mt_law_written.proofs.StandLemmas.{base_stored, inner_stored}
use Rattle.mt_law_written.proofs.law.definitions_are_stored.Goals as goal

pub returns-clause-base : goal.returns-clause-base
returns-clause-base c = base_stored

pub returns-clause-projections : goal.returns-clause-projections
returns-clause-projections c = inner_stored
