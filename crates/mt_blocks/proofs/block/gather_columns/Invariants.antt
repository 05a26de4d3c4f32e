use Rattle.std.proofs.Common.{◌≡◌, map, take}
use Rattle.mt_blocks.specs.Rows.{columns_in}
use Rattle.mt_blocks.specs.Rows.{picked}
use Rattle.mt_blocks.proofs.block.gather_columns.Given as goal

abbrev pub invariant-loop-column : goal.invariant-loop-column
invariant-loop-column l = columns_in l.gathered.items ≡ map (picked l.order) (columns_in (take l.column-index l.columns))
