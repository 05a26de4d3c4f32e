use Rattle.std.proofs.Common.{◌≡◌, drop}
use Rattle.std.specs.List.{list_any}
use Rattle.mt_cond.specs.Intervals.{is_in}
use Rattle.mt_cond.specs.Views.{interval_of}
use Rattle.mt_cond.proofs.bounds.Bounds.has_any.Given as goal

-- what is left decides
abbrev pub invariant-loop-value : goal.invariant-loop-value
invariant-loop-value l = list_any (is_in (interval_of l.self)) (drop l.value-index l.values) ≡ list_any (is_in (interval_of l.self)) l.values
