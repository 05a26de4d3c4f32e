use Rattle.std.proofs.Common.{◌≡◌, take}
use Rattle.mt_defs.specs.Rows.{key_of}
use Rattle.mt_proj.proofs.column.copy_cells.Given as goal

abbrev pub invariant-loop-column : goal.invariant-loop-column
invariant-loop-column l = l.copied ≡ key_of (take l.column-index l.columns) l.row
