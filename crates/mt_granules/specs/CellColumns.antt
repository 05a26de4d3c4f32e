-- The values of a column in some rows.
use Rattle.std.specs.Prelude.{ℕ, ◌<◌, List, length, All, IsTrue}
use Rattle.mt_types.specs.declared.ty.Ty.{Ty}
use Rattle.mt_types.specs.Fits.{fits_of}
use Rattle.mt_defs.specs.Rows.{Row, cell}

-- each row has a value of the type in a column
abbrev pub HasValues : Ty → ℕ → List Row → Type 0
HasValues ty column_index rows = All (λ row. (column_index < length row) × IsTrue (fits_of ty (cell row column_index))) rows
