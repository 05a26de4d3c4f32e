-- How many cells a row has, and the room for more.
use Rattle.std.specs.Prelude.{ℕ, ◌+◌, ◌-◌, List, length, Option, Some, None, nat_le, if◌then◌else◌}
use Rattle.std.specs.List.{sum_by}
use Rattle.mt_types.specs.declared.value.Value.{Value}
use Rattle.mt_table.specs.Rows.{element_count}

-- the cells of a row
abbrev pub cells_of : List Value → ℕ
cells_of values = length values + sum_by element_count values

-- what is left of the room for cells, where so many have room
abbrev pub room_after : ℕ → ℕ → Option ℕ
room_after cells room = if nat_le cells room then Some (room - cells) else None
