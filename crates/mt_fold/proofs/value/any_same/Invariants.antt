use Rattle.std.proofs.Common.{◌≡◌, drop}
use Rattle.std.specs.List.{list_any}
use Rattle.mt_query.specs.Truth.{is_same}
use Rattle.mt_fold.proofs.value.any_same.Given as goal

-- what is left decides
abbrev pub invariant-loop-item : goal.invariant-loop-item
invariant-loop-item l = list_any (λ item. is_same item l.literal) (drop l.item-index l.items) ≡ list_any (λ item. is_same item l.literal) l.items
