use Rattle.std.proofs.Common.{arith}
use Rattle.mt_cond.specs.Cover.{box_may}
use Rattle.mt_cond.proofs.WalkLemmas.{between_apart}
use Rattle.mt_cond.proofs.hold.may_apart.Goals as goal

pub returns-then-may_box : goal.returns-then-may_box
returns-then-may_box c =
    let e = between_apart (box_may c.args.cond.now c.args.key.now) c.args.key.now c.args.lo.now c.args.hi.now c.args.at c.index-key-at.result c.index-lo-at.result c.index-hi-at.result (omega arith) (omega arith) (omega arith) (c.requires.apart c.index-lo-at.result c.index-hi-at.result) c.requires.alike in
    grind (arith, e, c.index-key-at.is, c.index-lo-at.is, c.index-hi-at.is, c.both_span-last.ensures, c.may_box.ensures, c.if-may_box.true)

pub returns-then-may_past : goal.returns-then-may_past
returns-then-may_past c =
    let e = between_apart (box_may c.args.cond.now c.args.key.now) c.args.key.now c.args.lo.now c.args.hi.now c.args.at c.index-key-at.result c.index-lo-at.result c.index-hi-at.result (omega arith) (omega arith) (omega arith) (c.requires.apart c.index-lo-at.result c.index-hi-at.result) c.requires.alike in
    grind (arith, e, c.index-key-at.is, c.index-lo-at.is, c.index-hi-at.is, c.both_span-last.ensures, c.may_box.ensures, c.if-may_box.false, c.may_past.ensures, c.if-may_past.true)

pub returns : goal.returns
returns c =
    let e = between_apart (box_may c.args.cond.now c.args.key.now) c.args.key.now c.args.lo.now c.args.hi.now c.args.at c.index-key-at.result c.index-lo-at.result c.index-hi-at.result (omega arith) (omega arith) (omega arith) (c.requires.apart c.index-lo-at.result c.index-hi-at.result) c.requires.alike in
    grind (arith, e, c.index-key-at.is, c.index-lo-at.is, c.index-hi-at.is, c.both_span-last.ensures, c.may_box.ensures, c.if-may_box.false, c.may_past.ensures, c.if-may_past.false, c.may_before.ensures)
