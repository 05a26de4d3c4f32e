use Rattle.std.proofs.Common.{◌≡◌, ◌++◌, take}
use Rattle.mt_plain.specs.NumberRows.{items_of_column}
use Rattle.mt_plain.proofs.items.append_items.Given as goal

abbrev pub invariant-loop-row : goal.invariant-loop-row
invariant-loop-row l = l.out ≡ l.initial.out ++ items_of_column l.column_index (take l.row-index l.rows)
