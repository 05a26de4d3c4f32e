use Rattle.std.proofs.Common.{◌≡◌, ◌+◌, ◌<◌, ℕ, false}
use Rattle.std.specs.Ordering.{is_gt}
use Rattle.mt_blocks.specs.Sorting.{index_cmp}
use Rattle.mt_blocks.proofs.sort.never_falls.Given as goal

abbrev pub invariant-loop-index : goal.invariant-loop-index
invariant-loop-index l = (index : ℕ) → index + 1 < l.index → is_gt (index_cmp l.columns index (index + 1)) ≡ false
