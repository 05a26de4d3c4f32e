use Rattle.std.proofs.Common.{◌≡◌, take, map}
use Rattle.mt_defs.specs.Rows.{key_of}
use Rattle.mt_proj.proofs.normal.select_cells.Given as goal

abbrev pub invariant-loop-row : goal.invariant-loop-row
invariant-loop-row l = l.made.items ≡ map (key_of l.columns) (take l.row-index l.rows)
