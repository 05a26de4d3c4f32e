use Rattle.std.proofs.Common.{arith}
use Rattle.mt_marks.proofs.PositionLemmas.{goes_up, goes_down, index_is}
use Rattle.mt_marks.proofs.position.count_before.Goals as goal

pub loop-low-preserved-then-offset_at-offset : goal.loop-low-preserved-then-offset_at-offset
loop-low-preserved-then-offset_at-offset c =
    goes_up c.args.offset _ c.args.frames.now.end c.loop-low.low c.loop-low.high _ (rw c.as_slice-list.ensures c.args.frames.now.end_to_end)
    (omega arith) (omega (arith, c.loop-low-test.true)) (rw (← c.offset_at.ensures) c.if-offset_at-offset.true) c.loop-low.invariant

pub loop-low-preserved : goal.loop-low-preserved
loop-low-preserved c =
    goes_down c.args.offset _ c.args.frames.now.end c.loop-low.low c.loop-low.high _ (rw c.as_slice-list.ensures c.args.frames.now.end_to_end)
    (omega arith) (omega (arith, c.loop-low-test.true)) (rw (← c.offset_at.ensures) c.if-offset_at-offset.false) c.loop-low.invariant

pub returns : goal.returns
returns c =
    let had = c.loop-low.invariant in
    rw (← c.as_slice-list.ensures) (index_is c.args.offset _ c.loop-low.low (omega (arith, had.ordered, had.within)) had.below (λ k h u. had.above k (omega (arith, h, c.loop-low-test.false)) u))
