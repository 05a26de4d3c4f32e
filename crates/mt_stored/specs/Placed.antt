-- Rows that store some columns of a table, seen as rows of the table: docs/FORMAT.md, "Projections".
use Rattle.std.specs.Prelude.{ℕ, Bool, ◌&&◌, nat_lt, if◌then◌else◌, List, map}
use Rattle.std.specs.List.{range_with_len}
use Rattle.mt_types.specs.declared.value.Value.{Value}
use Rattle.mt_types.specs.declared.value.Value.TheVariants.{Null}
use Rattle.mt_table.specs.Kept.{is_one_of}
use Rattle.mt_table.specs.Stored.{index_in}
use Rattle.mt_defs.specs.Rows.{Row, cell}

-- a table of so many columns has the column, and it is stored
abbrev pub is_stored_column : (places : List ℕ) → (width column : ℕ) → Bool
is_stored_column places width column = is_one_of places column && nat_lt column width

-- the value of a column in a stored row; NULL where it isn't stored
abbrev pub placed_cell : (places : List ℕ) → Row → (column : ℕ) → Value
placed_cell places stored column = if is_one_of places column then cell stored (index_in places column) else Null

-- a stored row as a row of the table: each column that is stored at its own place, and NULL elsewhere
abbrev pub as_row : (places : List ℕ) → (width : ℕ) → Row → Row
as_row places width stored = map (placed_cell places stored) (range_with_len 0 width)
