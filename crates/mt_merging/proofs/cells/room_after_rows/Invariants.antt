use Rattle.std.proofs.Common.{◌≡◌, ◌+◌, take}
use Rattle.std.specs.List.{sum_by}
use Rattle.mt_tsv.specs.Cells.{cells_of}
use Rattle.mt_merging.proofs.cells.room_after_rows.Given as goal

abbrev pub invariant-loop-row : goal.invariant-loop-row
invariant-loop-row l = l.left + sum_by cells_of (take l.row-index l.rows) ≡ l.room
