use Rattle.std.proofs.Common.{◌≡◌, length}
use Rattle.mt_defs.specs.Rows.{key_cmp}
use Rattle.mt_definition.proofs.sort_order.compare_rows.Given as goal

abbrev pub invariant-loop-column : goal.invariant-loop-column
invariant-loop-column l = key_cmp l.rest l.a l.b ≡ key_cmp l.key l.a l.b

abbrev pub decreases-loop-column : goal.decreases-loop-column
decreases-loop-column l = length l.rest
