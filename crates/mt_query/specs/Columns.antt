-- The columns of a table, by their names.
use Rattle.std.specs.Prelude.{ℕ, Bool, List, Option, option_map, is_some, position}
use Rattle.std.specs.Str.{bytes_eq}
use Rattle.mt_types.specs.declared.ty.Ty.{Ty}
use Rattle.mt_table.specs.declared.column.Column.{Column}
use Rattle.mt_table.specs.Stored.{column_at}

-- the place of the column of a name, if there is one
abbrev pub place_of : List Column → (name : List ℕ) → Option ℕ
place_of columns name = position (λ column. bytes_eq column.name name) columns

-- there is a column of the name
abbrev pub is_there : List Column → (name : List ℕ) → Bool
is_there columns name = is_some (place_of columns name)

-- the place and the type of the column of a name, if there is one
abbrev pub column_of : List Column → (name : List ℕ) → Option (ℕ × Ty)
column_of columns name = option_map (λ place. (place, (column_at columns place).ty)) (place_of columns name)
