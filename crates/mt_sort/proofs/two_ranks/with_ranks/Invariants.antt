use Rattle.std.proofs.Common.{◌≡◌, ◌∷◌, map}
use Rattle.mt_sort.specs.RankedTwice.{ranked_row}
use Rattle.mt_sort.proofs.two_ranks.with_ranks.Given as goal

abbrev pub invariant-loop-row : goal.invariant-loop-row
invariant-loop-row l = l.made.items ≡ map (ranked_row l.scales (l.column ∷ l.others)) l.yielded
