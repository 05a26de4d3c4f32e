use Rattle.std.proofs.Common.{◌-◌}
use Rattle.mt_marks.proofs.PositionLemmas.{IsBetween}
use Rattle.mt_marks.proofs.position.count_before.Given as goal

abbrev pub invariant-loop-low : goal.invariant-loop-low
invariant-loop-low l = IsBetween l.offset l.list l.low l.high

abbrev pub decreases-loop-low : goal.decreases-loop-low
decreases-loop-low l = l.high - l.low
