use Rattle.mt_defs.specs.Projections.{base_of}
use Rattle.mt_law_checked.proofs.HeldLemmas.{order_is_held}
use Rattle.mt_law_checked.proofs.JoinLaw.{accepted_exactly, fault_of}
use Rattle.mt_law_checked.proofs.ReadLaw.{part_read, projections_read}
use Rattle.mt_law_checked.proofs.law.folders_are_checked_exactly.Goals as goal

pub returns-clause-accepted : goal.returns-clause-accepted
returns-clause-accepted c table folder names accepted listed =
    let readable = c.definitions_are_readable.ensures.base table in
    accepted_exactly c.summaries_are_tested.ensures c.projections_are_tested.ensures table folder (part_read c.definitions_are_read_exactly.ensures table folder readable)
    (λ rows granules holds. order_is_held c.listed_columns_are_read.ensures (base_of table) folder rows granules readable holds)
    (projections_read c.definitions_are_read_exactly.ensures table folder (c.definitions_are_readable.ensures.projections table)) (c.partitions_are_checked.ensures table folder) names listed accepted

pub returns-clause-fault : goal.returns-clause-fault
returns-clause-fault c table folder names listed =
    let readable = c.definitions_are_readable.ensures.base table in
    fault_of c.summaries_are_tested.ensures c.projections_are_tested.ensures table folder (part_read c.definitions_are_read_exactly.ensures table folder readable)
    (λ rows granules holds. order_is_held c.listed_columns_are_read.ensures (base_of table) folder rows granules readable holds)
    (projections_read c.definitions_are_read_exactly.ensures table folder (c.definitions_are_readable.ensures.projections table)) (c.partitions_are_checked.ensures table folder) names listed
