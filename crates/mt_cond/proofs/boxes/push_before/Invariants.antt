use Rattle.std.proofs.Common.{◌≡◌, ◌++◌, drop, map}
use Rattle.mt_cond.specs.Cover.{sides_of, fronts, to_key}
use Rattle.mt_cond.specs.Keys.{types_of}
use Rattle.mt_cond.proofs.boxes.push_before.Given as goal

-- the boxes so far, and then those that are left
abbrev pub invariant-loop-i : goal.invariant-loop-i
invariant-loop-i l =
    l.boxes ++ map (λ is. sides_of l.key (fronts l.i l.hi is)) (to_key (types_of (drop l.i l.key)) (drop l.i l.hi))
    ≡ l.initial.boxes ++ map (λ is. sides_of l.key (fronts l.from l.hi is)) (to_key (types_of (drop l.from l.key)) (drop l.from l.hi))
