use Rattle.std.proofs.Common.{arith}
use Rattle.mt_definition.proofs.OrderLemmas.{all_in_place, in_place_more}
use Rattle.mt_definition.proofs.whole_rows.has_all_in_place.Goals as goal

pub loop-index-preserved : goal.loop-index-preserved
loop-index-preserved c = in_place_more c.args.order.now c.loop-index.index c.loop-index-test.true (grind (arith, c.if-place-index.false)) c.loop-index.invariant

pub returns : goal.returns
returns c = λ _. all_in_place c.args.order.now c.args.columns.now c.loop-index.index c.loop-index.invariant c.loop-index-test.false (grind (arith, c.if-order-columns.false))
