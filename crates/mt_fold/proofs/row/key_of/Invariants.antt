use Rattle.std.proofs.Common.{◌≡◌, take}
use Rattle.mt_defs.specs.Rows.{key_of}
use Rattle.mt_look.specs.Seen.{row_by_index}
use Rattle.mt_fold.proofs.row.key_of.Given as goal

abbrev pub invariant-loop-column : goal.invariant-loop-column
invariant-loop-column g l = l.key ≡ key_of (take l.column-index l.columns) (row_by_index (g.L.Look.rows_of l.from) l.row)
