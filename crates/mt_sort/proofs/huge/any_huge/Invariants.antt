use Rattle.std.proofs.Common.{◌≡◌, drop}
use Rattle.std.specs.List.{list_any}
use Rattle.mt_sort.specs.Ranks.{has_huge}
use Rattle.mt_sort.proofs.huge.any_huge.Given as goal

abbrev pub invariant-loop-row : goal.invariant-loop-row
invariant-loop-row l = list_any (has_huge l.columns) (drop l.row-index l.rows) ≡ list_any (has_huge l.columns) l.rows
