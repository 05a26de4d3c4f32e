use Rattle.std.proofs.Common.{◌≡◌, map, take}
use Rattle.mt_table.specs.Stored.{column_at}
use Rattle.mt_files.proofs.listed.listed_columns.Given as goal

abbrev pub invariant-loop-place : goal.invariant-loop-place
invariant-loop-place l = l.listed ≡ map (column_at l.columns) (take l.place-index l.order)
