use Rattle.std.proofs.Common.{arith}
use Rattle.mt_definition.proofs.RowLemmas.{rises_on, falls_nowhere}
use Rattle.mt_definition.proofs.sort_order.first_fall.Goals as goal

pub loop-index-preserved : goal.loop-index-preserved
loop-index-preserved c = record {
  some = omega (arith, c.loop-index.invariant.some);
  same = rises_on c.args.sort.now c.args.rows.now c.loop-index.index c.index-rows-index.result c.index-rows-index-in-loop-index.result c.loop-index.invariant.some c.loop-index.invariant.same c.loop-index-test.true c.index-rows-index.is
      c.index-rows-index-in-loop-index.is c.compare_rows.result c.compare_rows.ensures c.is_lt.result c.is_lt.ensures c.if-is_lt.false;
}

pub returns : goal.returns
returns c = falls_nowhere c.args.sort.now c.args.rows.now c.loop-index.index c.loop-index.invariant.some c.loop-index.invariant.same c.loop-index-test.false
