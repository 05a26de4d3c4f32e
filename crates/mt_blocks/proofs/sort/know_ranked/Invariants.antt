use Rattle.std.proofs.Common.{take}
use Rattle.std.specs.List.{All}
use Rattle.mt_blocks.specs.Ranks.{IsRanked}
use Rattle.mt_blocks.proofs.sort.know_ranked.Given as goal

abbrev pub invariant-loop-column : goal.invariant-loop-column
invariant-loop-column l = All (λ column. IsRanked column.now) (take l.column-index l.columns)
