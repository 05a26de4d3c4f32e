use Rattle.mt_reading.specs.Reading.{accepted_line}
use Rattle.mt_reading.proofs.ReadingLemmas.{read_refused, text_given}
use Rattle.mt_reading.proofs.reading.check_text.Goals as goal

pub returns-in-Err-clause-gives : goal.returns-in-Err-clause-gives
returns-in-Err-clause-gives g c = read_refused (λ read. accepted_line read.1) c.args.path.now c.args.part.now c.in-Err.status _ c.in-Err.ensures.gives

pub returns-in-Ok-accepted_line-clause-gives : goal.returns-in-Ok-accepted_line-clause-gives
returns-in-Ok-accepted_line-clause-gives g c =
    text_given (λ read. accepted_line read.1) c.args.path.now c.args.part.now c.in-Ok.read c.in-Ok-accepted_line.line _ c.in-Ok.ensures.gives c.in-Ok-accepted_line.ensures
