use Rattle.std.proofs.Common.{Ok}
use Rattle.mt_command.proofs.PartLemmas.{checks_listed, fault_listed}
use Rattle.mt_command.proofs.part.check_listed.Goals as goal

pub returns-in-Ok-clause-gives : goal.returns-in-Ok-clause-gives
returns-in-Ok-clause-gives g c = checks_listed c.args.table.now c.args.part.now c.args.listing.now (Ok c.in-Ok.accepted) _ c.requires.known c.in-Ok.ensures.gives

pub returns-in-Err-AtFault-clause-gives : goal.returns-in-Err-AtFault-clause-gives
returns-in-Err-AtFault-clause-gives g c =
    fault_listed c.args.table.now c.args.part.now c.args.listing.now c.in-Err-AtFault.fault c.at_fault.result _ c.requires.known (rw c.in-Err-AtFault.field-0-is at c.in-Err-AtFault.ensures.gives) c.at_fault.ensures
