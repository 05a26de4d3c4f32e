use Rattle.mt_law_checked.proofs.ReadableLemmas.{base_readable, projections_readable}
use Rattle.mt_law_checked.proofs.law.definitions_are_readable.Goals as goal

pub returns-clause-base : goal.returns-clause-base
returns-clause-base c = λ table. base_readable table (c.definitions_are_stored.ensures.base table)

pub returns-clause-projections : goal.returns-clause-projections
returns-clause-projections c = λ table. projections_readable table (c.definitions_are_stored.ensures.projections table)
