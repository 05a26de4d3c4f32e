use Rattle.std.proofs.Common.{arith}
use Rattle.mt_marks.proofs.PayloadLemmas.{frames_fill}
use Rattle.mt_marks.proofs.rules.payload_len.Goals as goal

pub overflow_mul-result : goal.overflow_mul-result
overflow_mul-result c = let fill = frames_fill 0 c.args.frames.now.list c.args.frames.now.end c.args.frames.now.end_to_end in omega (arith, fill, c.len.ensures)

pub overflow_sub-result : goal.overflow_sub-result
overflow_sub-result c = let fill = frames_fill 0 c.args.frames.now.list c.args.frames.now.end c.args.frames.now.end_to_end in omega (arith, fill, c.len.ensures)

pub returns : goal.returns
returns c = let fill = frames_fill 0 c.args.frames.now.list c.args.frames.now.end c.args.frames.now.end_to_end in omega (arith, fill, c.len.ensures)
