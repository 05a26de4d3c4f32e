use Rattle.std.proofs.Common.{◌≡◌, ◌≤◌, ◌*◌, ◌^◌, take, sum}
use Rattle.mt_granules.proofs.rows.sum_of.Given as goal

abbrev pub invariant-loop-rows : goal.invariant-loop-rows
invariant-loop-rows l = record {
  total : l.total ≡ sum (take l.rows-index l.granules);
  few : l.total ≤ l.rows-index * 2 ^ 64;
}
