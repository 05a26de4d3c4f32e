use Rattle.mt_command.proofs.PartLemmas.{listing_refused}
use Rattle.mt_command.proofs.part.accept_part.Goals as goal

pub returns-in-Err-clause-gives : goal.returns-in-Err-clause-gives
returns-in-Err-clause-gives g c = listing_refused c.args.table.now c.args.part.now c.in-Err.status _ c.in-Err.ensures.gives
