use Rattle.std.proofs.Common.{◌≡◌, take}
use Rattle.mt_defs.specs.Rows.{column_values}
use Rattle.mt_check.proofs.skip_index.column_of.Given as goal

abbrev pub invariant-loop-row : goal.invariant-loop-row
invariant-loop-row l = l.values ≡ column_values l.column (take l.row-index l.rows)
