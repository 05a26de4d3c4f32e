use Rattle.std.proofs.Common.{◌≡◌, map, take}
use Rattle.mt_fold.specs.Answer.{plain_item}
use Rattle.mt_exec.proofs.plain.result_row.Given as goal

abbrev pub invariant-loop-item : goal.invariant-loop-item
invariant-loop-item l = l.made ≡ map (plain_item l.row) (take l.item-index l.items)
