use Rattle.std.proofs.Common.{◌≡◌, drop}
use Rattle.std.specs.List.{list_any}
use Rattle.mt_cond.specs.Cover.{box_may, fronts, to_key}
use Rattle.mt_cond.specs.Keys.{types_of}
use Rattle.mt_cond.proofs.hold.may_before.Given as goal

-- what is left decides
abbrev pub invariant-loop-i : goal.invariant-loop-i
invariant-loop-i l =
    list_any (λ is. box_may l.cond l.key (fronts l.i l.hi is)) (to_key (types_of (drop l.i l.key)) (drop l.i l.hi))
    ≡ list_any (λ is. box_may l.cond l.key (fronts l.from l.hi is)) (to_key (types_of (drop l.from l.key)) (drop l.from l.hi))
