use Rattle.std.proofs.Common.{◌≡◌, ◌+◌, take}
use Rattle.std.specs.List.{sum_by}
use Rattle.mt_table.specs.Rows.{element_count}
use Rattle.mt_definition.proofs.cells.+room_after_elements.Given as goal

abbrev pub invariant-loop-value : goal.invariant-loop-value
invariant-loop-value l = l.left + sum_by element_count (take l.value-index l.values) ≡ l.room
