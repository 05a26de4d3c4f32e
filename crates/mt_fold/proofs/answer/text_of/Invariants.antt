use Rattle.std.proofs.Common.{◌≡◌, take}
use Rattle.mt_tsv.specs.Printing.{rows_text}
use Rattle.mt_fold.proofs.answer.text_of.Given as goal

abbrev pub invariant-loop-row : goal.invariant-loop-row
invariant-loop-row l = l.text ≡ rows_text l.columns (take l.row-index l.rows)
