-- Columns of unsigned integers.
use Rattle.std.specs.Prelude.{ℕ, List, All, IsTrue}
use Rattle.mt_types.specs.declared.ty.Ty.TheVariants.{UInt}
use Rattle.mt_types.specs.declared.ty.Width.{Width}
use Rattle.mt_types.specs.Fits.{fits_of}
use Rattle.mt_defs.specs.Rows.{Row, cell}

-- each row has a number of this width in a column
abbrev pub HasNumbersOfWidth : Width → ℕ → List Row → Type 0
HasNumbersOfWidth width column_index rows = All (λ row. IsTrue (fits_of (UInt width) (cell row column_index))) rows
