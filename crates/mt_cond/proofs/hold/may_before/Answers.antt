use Rattle.std.proofs.Common.{arith}
use Rattle.mt_cond.specs.Cover.{box_may}
use Rattle.mt_cond.proofs.WalkLemmas.{to_more}
use Rattle.mt_cond.proofs.hold.may_before.Goals as goal

pub loop-i-preserved : goal.loop-i-preserved
loop-i-preserved c =
    let e = to_more (box_may c.args.cond.now c.args.key.now) c.args.key.now c.args.hi.now c.loop-i.i c.index-key-i.result c.index-hi-i.result (omega arith) (omega arith) in
    grind (arith, e, c.index-key-i.is, c.index-hi-i.is, c.to_span-last.ensures, c.may_box.ensures, c.if-may_box.false, c.loop-i.invariant)
