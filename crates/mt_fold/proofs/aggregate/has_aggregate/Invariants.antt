use Rattle.std.proofs.Common.{◌≡◌, drop}
use Rattle.mt_fold.specs.Answer.{aggregates, is_empty}
use Rattle.mt_fold.proofs.aggregate.has_aggregate.Given as goal

-- what is left decides
abbrev pub invariant-loop-item : goal.invariant-loop-item
invariant-loop-item l = is_empty (aggregates (drop l.item-index l.items)) ≡ is_empty (aggregates l.items)
