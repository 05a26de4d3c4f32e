use Rattle.std.proofs.Common.{◌≡◌, map, take}
use Rattle.std.specs.Borrow.{Bor}
use Rattle.std.specs.List.{flat_map}
use Rattle.mt_defs.specs.Rows.{Row}
use Rattle.mt_tsv.specs.Printing.{row_text}
use Rattle.mt_fold.specs.Answer.{plain_item}
use Rattle.mt_exec.proofs.plain.text_of.Given as goal

abbrev pub invariant-loop-row : goal.invariant-loop-row
invariant-loop-row l = l.text ≡ flat_map (λ (row : Bor Row). row_text l.columns (map (plain_item row.now) l.items)) (take l.row-index l.rows)
