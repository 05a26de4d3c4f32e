use Rattle.mt_note.proofs.NoteLemmas.{whole_prefix}
use Rattle.mt_command.specs.declared.status.Status.TheVariants.{NoMemory}
use Rattle.mt_note.proofs.reporting.report_no_memory.Goals as goal

pub returns-in-Ok-clause-noted : goal.returns-in-Ok-clause-noted
returns-in-Ok-clause-noted g c = (NoMemory, whole_prefix _ _ _ c.in-Ok.ensures.ok)

pub returns-in-Err-clause-noted : goal.returns-in-Err-clause-noted
returns-in-Err-clause-noted g c = (NoMemory, c.in-Err.ensures.err)
