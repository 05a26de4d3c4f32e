use Rattle.std.proofs.Common.{◌≡◌, map}
use Rattle.mt_sort.specs.RankedOnce.{ranked_row}
use Rattle.mt_sort.proofs.one_rank.with_ranks.Given as goal

abbrev pub invariant-loop-row : goal.invariant-loop-row
invariant-loop-row l = l.made.items ≡ map (ranked_row l.scale l.column) l.yielded
