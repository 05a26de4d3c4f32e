use Rattle.std.proofs.Common.{◌≡◌, ◌+◌, take}
use Rattle.std.specs.List.{sum_by}
use Rattle.mt_table.specs.Rows.{element_count}
use Rattle.mt_definition.proofs.cells.room_after_rows.Given as goal

abbrev pub invariant-loop-row : goal.invariant-loop-row
invariant-loop-row l = l.left + (l.values + sum_by (λ row. sum_by element_count row) (take l.row-index l.rows)) ≡ l.room
