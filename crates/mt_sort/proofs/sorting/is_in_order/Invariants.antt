use Rattle.std.proofs.Common.{◌≡◌, length}
use Rattle.mt_defs.specs.Rows.{key_cmp}
use Rattle.mt_sort.specs.InOrder.{is_in_order}
use Rattle.mt_sort.proofs.sorting.is_in_order.Given as goal

abbrev pub invariant-loop-first : goal.invariant-loop-first
invariant-loop-first l = is_in_order (key_cmp l.key) l.rest ≡ is_in_order (key_cmp l.key) l.rows

abbrev pub decreases-loop-first : goal.decreases-loop-first
decreases-loop-first l = length l.rest
