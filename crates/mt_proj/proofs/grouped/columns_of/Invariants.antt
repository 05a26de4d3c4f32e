use Rattle.std.proofs.Common.{◌≡◌, take}
use Rattle.mt_proj.proofs.grouped.columns_of.Given as goal

abbrev pub invariant-loop-column : goal.invariant-loop-column
invariant-loop-column l = l.indexes.items ≡ take l.column-index l.columns
