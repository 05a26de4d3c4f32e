use Rattle.std.proofs.Common.{◌≡◌, take}
use Rattle.std.specs.List.{sum_by}
use Rattle.mt_layout.specs.Sizes.{saturated, value_size}
use Rattle.mt_layout.proofs.rows.+sizes.Given as goal

-- the bytes of the values so far
abbrev pub invariant-values_size-loop-value : goal.invariant-values_size-loop-value
invariant-values_size-loop-value l = l.size ≡ saturated (sum_by (value_size l.ty) (take l.value-index l.values))
