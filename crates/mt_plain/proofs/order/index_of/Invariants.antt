use Rattle.std.proofs.Common.{◌≡◌, ◌++◌, take, drop}
use Rattle.mt_defs.specs.Sorting.{placed_by}
use Rattle.mt_defs.specs.Writer.{file_cmp}
use Rattle.mt_plain.proofs.order.index_of.Given as goal

abbrev pub invariant-loop-index : goal.invariant-loop-index
invariant-loop-index l = take l.index l.sorted ++ placed_by file_cmp l.file (drop l.index l.sorted) ≡ placed_by file_cmp l.file l.sorted
