use Rattle.std.proofs.Common.{sym, ◌∙◌, arith}
use Rattle.mt_marks.proofs.ReadingLemmas.{all_hold, one_breaks}
use Rattle.mt_marks.proofs.reading.read_marks.Goals as goal

pub returns-in-Ok-clause-reads : goal.returns-in-Ok-clause-reads
returns-in-Ok-clause-reads c =
    all_hold c.args.per_granule c.args.frames.now c.args.bytes.now c.in-Some.marks (sym c.in-Some.is ∙ c.in_ok-marks.ensures.found) (omega (arith, c.len.ensures, c.if-len-lt2.false)) c.in-Ok.ensures

pub returns-in-Err-clause-reads : goal.returns-in-Err-clause-reads
returns-in-Err-clause-reads c =
    one_breaks c.args.per_granule c.args.frames.now c.args.bytes.now c.in-Some.marks (sym c.in-Some.is ∙ c.in_ok-marks.ensures.found) c.in-Err.fault (omega (arith, c.len.ensures, c.if-len-lt2.false)) c.in-Err.ensures
