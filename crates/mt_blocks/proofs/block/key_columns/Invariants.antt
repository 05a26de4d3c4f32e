use Rattle.std.proofs.Common.{◌≡◌, [], map, take, get_or}
use Rattle.mt_blocks.specs.Rows.{columns_in}
use Rattle.mt_blocks.proofs.block.key_columns.Given as goal

abbrev pub invariant-loop-column : goal.invariant-loop-column
invariant-loop-column l = map (λ key. key.now.values) l.keys.items ≡ map (λ column. get_or (columns_in l.columns) column []) (take l.column-index l.sort)
