use Rattle.std.proofs.Common.{◌≡◌, ◌++◌, drop, map}
use Rattle.mt_cond.specs.Cover.{sides_of, fronts, from_key}
use Rattle.mt_cond.specs.Keys.{types_of}
use Rattle.mt_cond.proofs.boxes.push_past.Given as goal

-- the boxes so far, and then those that are left
abbrev pub invariant-loop-i : goal.invariant-loop-i
invariant-loop-i l =
    l.boxes ++ map (λ is. sides_of l.key (fronts l.i l.lo is)) (from_key (types_of (drop l.i l.key)) (drop l.i l.lo))
    ≡ l.initial.boxes ++ map (λ is. sides_of l.key (fronts l.from l.lo is)) (from_key (types_of (drop l.from l.key)) (drop l.from l.lo))
