use Rattle.mt_command.proofs.DoneLemmas.{printing_printed}
use Rattle.mt_command.proofs.RefusedLemmas.{printing_refused}
use Rattle.mt_reading.specs.Reading.{check_steps}
use Rattle.mt_reading.proofs.reading.check.Goals as goal

pub returns-in-Err : goal.returns-in-Err
returns-in-Err g c = printing_refused (check_steps c.args.path.now c.args.part.now) c.in-Err.status _ _ _ _ _ _ _ _ c.in-Err.ensures.gives c.in-Err.ensures.files c.in-Err.ensures.cause

pub returns-in-Ok : goal.returns-in-Ok
returns-in-Ok g c =
    rw c.finished.ensures (printing_printed (check_steps c.args.path.now c.args.part.now) c.in-Ok.text c.print.result _ _ _ _ _ _ _ _ _ _ c.in-Ok.ensures.gives c.in-Ok.ensures.files c.in-Ok.ensures.cause
    (rw c.as_slice.ensures at c.print.ensures.printed) c.print.ensures.cause)
