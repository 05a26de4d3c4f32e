-- The room for cells.
use Rattle.std.specs.Prelude.{ℕ, ◌-◌, nat_le, if◌then◌else◌, Option, Some, None}

-- what is left of the room for cells, where so many have room
abbrev pub room_after : ℕ → ℕ → Option ℕ
room_after cells room = if nat_le cells room then Some (room - cells) else None
