use Rattle.std.proofs.Common.{◌≡◌, drop}
use Rattle.mt_blocks.specs.Sorting.{index_cmp}
use Rattle.mt_blocks.proofs.sort.compare_rows.Given as goal

-- what is left decides
abbrev pub invariant-loop-column : goal.invariant-loop-column
invariant-loop-column l = index_cmp (drop l.column-index l.columns) l.a l.b ≡ index_cmp l.columns l.a l.b
