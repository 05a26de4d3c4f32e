use Rattle.mt_select.proofs.SelectLemmas.{part_refused}
use Rattle.mt_select.proofs.answer.answer_of.Goals as goal

pub returns-in-Err-clause-gives : goal.returns-in-Err-clause-gives
returns-in-Err-clause-gives g c = part_refused c.args.table.now c.args.query.now c.args.part.now c.in-Err.status _ c.in-Err.ensures.gives
