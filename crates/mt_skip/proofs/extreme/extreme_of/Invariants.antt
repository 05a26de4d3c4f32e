use Rattle.std.proofs.Common.{◌≡◌, ◌≤◌, ◌<◌, length, drop}
use Rattle.mt_defs.specs.WrittenPartition.{best_of}
use Rattle.mt_skip.specs.Extremes.{is_better, values_at}
use Rattle.mt_skip.proofs.extreme.extreme_of.Given as goal

-- the best of the last values
abbrev pub invariant-loop-left : goal.invariant-loop-left
invariant-loop-left l = record {
  within : l.best < length l.values;
  behind : l.left ≤ l.best;
  best : values_at l.best l.values ≡ best_of (is_better l.extreme) (drop l.left l.values);
}

abbrev pub decreases-loop-left : goal.decreases-loop-left
decreases-loop-left l = l.left
