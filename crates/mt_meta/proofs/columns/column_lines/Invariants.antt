use Rattle.std.proofs.Common.{◌≡◌, map, take}
use Rattle.mt_defs.specs.Metadata.{column_line}
use Rattle.mt_meta.proofs.columns.column_lines.Given as goal

abbrev pub invariant-loop-column : goal.invariant-loop-column
invariant-loop-column l = l.lines ≡ map column_line (take l.column-index l.columns)
