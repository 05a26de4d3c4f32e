use Rattle.std.specs.Prelude.{◌≡◌, true, map, drop}
use Rattle.std.specs.Ordering.{nat_cmp}
use Rattle.std.specs.Cmp.Lexicographic.{slice_cmp}
use Rattle.std.specs.FinMap.{is_sorted}
use Rattle.mt_host.proofs.listing.is_rising.Given as goal

abbrev pub invariant-loop-i : goal.invariant-loop-i
invariant-loop-i l = is_sorted (slice_cmp nat_cmp) (map (λ e. (e.name, e.size)) (drop l.i l.entries)) ≡ true
