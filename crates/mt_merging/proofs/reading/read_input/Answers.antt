use Rattle.mt_merging.proofs.StepLemmas.{part_refused}
use Rattle.mt_merging.proofs.reading.read_input.Goals as goal

pub returns-in-Err-clause-err : goal.returns-in-Err-clause-err
returns-in-Err-clause-err g c = part_refused c.args.table.now c.args.read.now c.args.part.now c.in-Err.status _ c.in-Err.ensures.gives
