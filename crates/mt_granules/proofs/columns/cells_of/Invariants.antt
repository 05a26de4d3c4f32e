use Rattle.std.proofs.Common.{◌≡◌, take}
use Rattle.mt_codec.specs.Runs.{values_of}
use Rattle.mt_defs.specs.Rows.{column_values}
use Rattle.mt_granules.proofs.columns.cells_of.Given as goal

abbrev pub invariant-loop-row : goal.invariant-loop-row
invariant-loop-row l = values_of l.cells.items ≡ column_values l.column_index (take l.row-index l.rows)
