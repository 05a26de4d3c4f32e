use Rattle.std.proofs.Common.{◌≡◌, take}
use Rattle.mt_table.proofs.stored.copy_all.Given as goal

abbrev pub invariant-loop-column : goal.invariant-loop-column
invariant-loop-column l = l.copied ≡ take l.column-index l.columns
