use Rattle.std.proofs.Common.{◌≡◌, take}
use Rattle.mt_sort.specs.References.{rows_in}
use Rattle.mt_proj.proofs.sorting.sorted_refs.Given as goal

abbrev pub invariant-loop-row : goal.invariant-loop-row
invariant-loop-row l = rows_in l.sorted.items ≡ take l.row-index l.rows
