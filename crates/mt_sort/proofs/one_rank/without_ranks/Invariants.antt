use Rattle.std.proofs.Common.{◌≡◌, map}
use Rattle.mt_sort.specs.declared.one_rank.OneRank.{OneRank}
use Rattle.mt_sort.proofs.one_rank.without_ranks.Given as goal

abbrev pub invariant-loop-row : goal.invariant-loop-row
invariant-loop-row l = l.rows ≡ map (λ (r : OneRank). r.row) l.yielded
