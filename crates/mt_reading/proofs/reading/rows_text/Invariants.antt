use Rattle.std.proofs.Common.{◌≡◌, take}
use Rattle.mt_tsv.specs.Printing.{rows_text}
use Rattle.mt_reading.proofs.reading.rows_text.Given as goal

-- the lines so far
abbrev pub invariant-loop-row : goal.invariant-loop-row
invariant-loop-row l = l.lines ≡ rows_text l.columns (take l.row-index l.rows)
