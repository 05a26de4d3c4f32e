use Rattle.mt_tsv.specs.Printing.{rows_text}
use Rattle.mt_reading.proofs.ReadingLemmas.{read_refused, text_given}
use Rattle.mt_reading.proofs.reading.lines_of_part.Goals as goal

pub returns-in-Err-clause-gives : goal.returns-in-Err-clause-gives
returns-in-Err-clause-gives g c = read_refused (λ read. rows_text read.0.columns read.1.rows) c.args.path.now c.args.part.now c.in-Err.status _ c.in-Err.ensures.gives

pub returns-in-Ok-rows_text-clause-gives : goal.returns-in-Ok-rows_text-clause-gives
returns-in-Ok-rows_text-clause-gives g c =
    text_given (λ read. rows_text read.0.columns read.1.rows) c.args.path.now c.args.part.now c.in-Ok.read c.in-Ok-rows_text.lines _ c.in-Ok.ensures.gives
    (rw (c.as_slice.ensures, c.as_slice-2.ensures) at c.in-Ok-rows_text.ensures)
