use Rattle.std.proofs.Common.{◌≡◌, ◌≤◌, ◌*◌, ◌^◌, take, sum}
use Rattle.mt_codec.proofs.arrays.sum_of.Given as goal

abbrev pub invariant-loop-size : goal.invariant-loop-size
invariant-loop-size l = record {
  total : l.total ≡ sum (take l.size-index l.sizes);
  few : l.total ≤ l.size-index * 2 ^ 64;
}
