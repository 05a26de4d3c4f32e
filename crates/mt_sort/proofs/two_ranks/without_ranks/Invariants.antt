use Rattle.std.proofs.Common.{◌≡◌, map}
use Rattle.mt_sort.specs.declared.two_ranks.TwoRanks.{TwoRanks}
use Rattle.mt_sort.proofs.two_ranks.without_ranks.Given as goal

abbrev pub invariant-loop-row : goal.invariant-loop-row
invariant-loop-row l = l.rows ≡ map (λ (r : TwoRanks). r.row) l.yielded
