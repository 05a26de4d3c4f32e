use Rattle.std.proofs.Common.{◌≡◌, take}
use Rattle.mt_defs.specs.Rows.{column_values}
use Rattle.mt_build.proofs.skips.column_values.Given as goal

abbrev pub invariant-loop-row : goal.invariant-loop-row
invariant-loop-row l = l.values.items ≡ column_values l.column (take l.row-index l.rows)
