use Rattle.std.proofs.Common.{ap}
use Rattle.mt_definition.specs.declared.accepted.Accepted.{Accepted}
use Rattle.mt_law_checked.proofs.JoinLaw.{one_list}
use Rattle.mt_law_checked.proofs.ReadLaw.{part_read}
use Rattle.mt_law_checked.proofs.law.folders_stand_for_one_list_of_rows.Goals as goal

pub returns-clause-rows : goal.returns-clause-rows
returns-clause-rows c table folder rows others (granules, one) (marked, two) =
    ap (λ (a : Accepted). a.rows)
    (one_list table folder (part_read c.definitions_are_read_exactly.ensures table folder (c.definitions_are_readable.ensures.base table)) (record { rows = rows; granules = granules }) (record { rows = others; granules = marked }) one two)

pub returns-clause-granules : goal.returns-clause-granules
returns-clause-granules c table folder rows others granules marked one two =
    ap (λ (a : Accepted). a.granules)
    (one_list table folder (part_read c.definitions_are_read_exactly.ensures table folder (c.definitions_are_readable.ensures.base table)) (record { rows = rows; granules = granules }) (record { rows = others; granules = marked }) one two)
