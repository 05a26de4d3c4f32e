-- The limits on the rows and cells of a part, and the room that some rows leave of them.
use Rattle.std.specs.Prelude.{◌≡◌, ℕ, ◌+◌, nat_lt, List, length, if◌then◌else◌, Result, Ok, Err}
use Rattle.mt_table.specs.declared.definition.Table.{Table}
use Rattle.mt_table.specs.declared.limits.TheConstants.{MAX_ROWS, MAX_CELLS}
use Rattle.mt_defs.specs.Rows.{Row, cell_count}
use Rattle.mt_command.specs.declared.status.What.TheVariants as what
use Rattle.mt_command.specs.declared.status.Status.{Status}
use Rattle.mt_command.specs.declared.status.Status.TheVariants.{TooMuch}
use Rattle.mt_merging.specs.declared.room.Room.{Room}

-- so many rows and cells have room
abbrev pub have_room : (rows cells row_room cell_room : ℕ) → Result Unit Status
have_room rows cells row_room cell_room =
    if nat_lt row_room rows then Err (TooMuch what.Rows MAX_ROWS)
    else if nat_lt cell_room cells then Err (TooMuch what.Cells MAX_CELLS) else Ok tt

-- rows that a part may hold
abbrev pub within_limits : Table → List Row → Result Unit Status
within_limits table rows = have_room (length rows) (cell_count table.columns rows) MAX_ROWS MAX_CELLS

-- what some rows leave of the limits
pub record LeaveRoom (table : Table) (rows : List Row) (room : Room) : Type 0 where
  pub rows_left : room.rows + length rows ≡ MAX_ROWS
  pub cells_left : room.cells + cell_count table.columns rows ≡ MAX_CELLS
