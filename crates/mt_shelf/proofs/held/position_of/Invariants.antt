use Rattle.std.proofs.Common.{◌≡◌, take, map, None}
use Rattle.std.specs.FinMap.{find}
use Rattle.std.specs.Ordering.{nat_cmp}
use Rattle.std.specs.Cmp.Lexicographic.{slice_cmp}
use Rattle.mt_shelf.specs.Held.{pair_of}
use Rattle.mt_shelf.proofs.held.position_of.Given as goal

abbrev pub invariant-loop-i : goal.invariant-loop-i
invariant-loop-i l = find (slice_cmp nat_cmp) l.path (map pair_of (take l.i l.held)) ≡ None
