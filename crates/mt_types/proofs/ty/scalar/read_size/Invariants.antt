use Rattle.std.proofs.Common.{◌≡◌, ◌≤◌, drop}
use Rattle.mt_types.specs.declared.limits.TheConstants.{MAX_FIXED_STRING}
use Rattle.mt_types.specs.NameReading.{size_from}
use Rattle.mt_types.proofs.ty.scalar.read_size.Given as goal

-- what is left decides
abbrev pub invariant-loop-digit : goal.invariant-loop-digit
invariant-loop-digit l = record {
  small : l.size ≤ MAX_FIXED_STRING;
  decides : size_from l.size (drop l.digit-index l.digits) ≡ size_from 0 l.digits;
}
