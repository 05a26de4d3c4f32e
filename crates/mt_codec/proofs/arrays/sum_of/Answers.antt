use Rattle.std.proofs.Common.{◌<◌, ◌^◌, get_or, length, arith, rules}
use Rattle.mt_codec.proofs.ArrayLemmas.{sum_more}
use Rattle.mt_codec.proofs.arrays.sum_of.Goals as goal

pub overflow_add-total : goal.overflow_add-total
overflow_add-total c =
    let small : get_or c.args.sizes.now c.loop-size.size-index 0 < 2 ^ 64 = omega (arith, c.type_inv.sizes c.loop-size.size-index) in
    let long : length c.args.sizes.now < 2 ^ 64 = search rules in
    omega (arith, c.loop-size.invariant.few, c.loop-size-test.true, c.from-total.ensures, small, long)

pub loop-size-preserved : goal.loop-size-preserved
loop-size-preserved c =
    let small : get_or c.args.sizes.now c.loop-size.size-index 0 < 2 ^ 64 = omega (arith, c.type_inv.sizes c.loop-size.size-index) in
    record {
      total = omega (arith, c.loop-size.invariant.total, c.from-total.ensures, sum_more c.args.sizes.now c.loop-size.size-index c.loop-size-test.true);
      few = omega (arith, c.loop-size.invariant.few, c.from-total.ensures, small);
    }
