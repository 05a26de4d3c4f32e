use Rattle.std.proofs.Common.{◌≡◌, drop}
use Rattle.std.specs.List.{list_any}
use Rattle.mt_cond.specs.Cover.{box_may, fronts, from_key}
use Rattle.mt_cond.specs.Keys.{types_of}
use Rattle.mt_cond.proofs.hold.may_past.Given as goal

-- what is left decides
abbrev pub invariant-loop-i : goal.invariant-loop-i
invariant-loop-i l =
    list_any (λ is. box_may l.cond l.key (fronts l.i l.lo is)) (from_key (types_of (drop l.i l.key)) (drop l.i l.lo))
    ≡ list_any (λ is. box_may l.cond l.key (fronts l.from l.lo is)) (from_key (types_of (drop l.from l.key)) (drop l.from l.lo))
