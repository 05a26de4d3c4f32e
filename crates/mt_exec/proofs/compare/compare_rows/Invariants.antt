use Rattle.std.proofs.Common.{◌≡◌, length}
use Rattle.mt_exec.specs.Plain.{items_cmp}
use Rattle.mt_exec.proofs.compare.compare_rows.Given as goal

-- what is left decides
abbrev pub invariant-loop-item : goal.invariant-loop-item
invariant-loop-item l = items_cmp l.rest l.a l.b ≡ items_cmp l.items l.a l.b

abbrev pub decreases-loop-item : goal.decreases-loop-item
decreases-loop-item l = length l.rest
