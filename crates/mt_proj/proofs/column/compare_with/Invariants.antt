use Rattle.std.proofs.Common.{◌≡◌, length}
use Rattle.mt_types.specs.Order.{values_cmp}
use Rattle.mt_defs.specs.Rows.{key_of}
use Rattle.mt_proj.proofs.column.compare_with.Given as goal

-- what is left decides
abbrev pub invariant-loop-column : goal.invariant-loop-column
invariant-loop-column l = values_cmp (key_of l.rest l.row) l.others ≡ values_cmp (key_of l.columns l.row) l.values

abbrev pub decreases-loop-column : goal.decreases-loop-column
decreases-loop-column l = length l.rest
