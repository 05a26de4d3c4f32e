use Rattle.mt_command.proofs.PartLemmas.{part_given, part_refused, table_refused}
use Rattle.mt_command.proofs.part.read_part.Goals as goal

pub returns-in-Err-clause-gives : goal.returns-in-Err-clause-gives
returns-in-Err-clause-gives g c = table_refused c.args.path.now c.args.part.now c.in-Err.status _ c.in-Err.ensures.gives

pub returns-in-Ok-accept_part-clause-gives : goal.returns-in-Ok-accept_part-clause-gives
returns-in-Ok-accept_part-clause-gives g c =
    part_given c.args.path.now c.args.part.now c.in-Ok.table c.in-Ok-accept_part.accepted _ _ c.in-Ok.ensures.gives c.in-Ok.ensures.files c.in-Ok-accept_part.ensures.gives

pub returns-in-Err-accept_part-clause-gives : goal.returns-in-Err-accept_part-clause-gives
returns-in-Err-accept_part-clause-gives g c =
    part_refused c.args.path.now c.args.part.now c.in-Ok.table c.in-Err-accept_part.status _ _ c.in-Ok.ensures.gives c.in-Ok.ensures.files c.in-Err-accept_part.ensures.gives
