use Rattle.std.proofs.Common.{◌≡◌, take}
use Rattle.mt_plan_known.proofs.granules.copied.Given as goal

abbrev pub invariant-loop-number : goal.invariant-loop-number
invariant-loop-number l = l.copied ≡ take l.number-index l.numbers
