use Rattle.std.proofs.Common.{◌≡◌, drop}
use Rattle.mt_sort.specs.Ranks.{has_huge}
use Rattle.mt_sort.proofs.huge.has_huge.Given as goal

abbrev pub invariant-loop-column : goal.invariant-loop-column
invariant-loop-column l = has_huge (drop l.column-index l.columns) l.row ≡ has_huge l.columns l.row
