use Rattle.std.proofs.Common.{◌≡◌, take, map}
use Rattle.mt_table.specs.Stored.{column_at}
use Rattle.mt_table.proofs.stored.copy_columns.Given as goal

abbrev pub invariant-loop-place : goal.invariant-loop-place
invariant-loop-place l = l.copied ≡ map (column_at l.columns) (take l.place-index l.places)
