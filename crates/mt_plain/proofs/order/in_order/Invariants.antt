use Rattle.std.proofs.Common.{◌≡◌, length}
use Rattle.mt_defs.specs.Sorting.{sorted_by}
use Rattle.mt_defs.specs.Writer.{file_cmp}
use Rattle.mt_plain.proofs.OrderLemmas.{placed_all}
use Rattle.mt_plain.proofs.order.in_order.Given as goal

abbrev pub invariant-loop-file : goal.invariant-loop-file
invariant-loop-file l = placed_all file_cmp l.files.items l.sorted.items ≡ sorted_by file_cmp l.initial.files.items

abbrev pub decreases-loop-file : goal.decreases-loop-file
decreases-loop-file l = length l.files.items
