use Rattle.std.proofs.Common.{◌≡◌, take}
use Rattle.mt_fold.specs.Answer.{item_columns}
use Rattle.mt_fold.proofs.item.item_columns.Given as goal

abbrev pub invariant-loop-item : goal.invariant-loop-item
invariant-loop-item l = l.columns.items ≡ item_columns l.table (take l.item-index l.items)
