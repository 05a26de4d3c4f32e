use Rattle.std.proofs.Common.{◌≡◌, ◌&&◌, false, length, take}
use Rattle.std.specs.Prelude.{nat_lt}
use Rattle.mt_defs.specs.SkipIndexes.{distinct_values}
use Rattle.mt_skip.specs.Gathering.{values_in}
use Rattle.mt_skip.proofs.distinct.distinct_of.Given as goal

-- the distinct values so far, which are few
abbrev pub invariant-loop-value : goal.invariant-loop-value
invariant-loop-value l = record {
  gathered : values_in l.distinct.keys ≡ distinct_values (take l.value-index l.values);
  few : (nat_lt 0 l.max_rows && nat_lt l.max_rows (length l.distinct.keys)) ≡ false;
}
