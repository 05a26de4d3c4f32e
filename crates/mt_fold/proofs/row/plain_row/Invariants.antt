use Rattle.std.proofs.Common.{◌≡◌, take, map}
use Rattle.mt_look.specs.Seen.{row_by_index}
use Rattle.mt_fold.specs.Answer.{plain_item}
use Rattle.mt_fold.proofs.row.plain_row.Given as goal

abbrev pub invariant-loop-item : goal.invariant-loop-item
invariant-loop-item g l = l.made ≡ map (plain_item (row_by_index (g.L.Look.rows_of l.from) l.row)) (take l.item-index l.items)
