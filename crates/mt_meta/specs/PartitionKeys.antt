-- Partition keys: docs/FORMAT.md, "Partition".
use Rattle.std.specs.Prelude.{◌≡◌, ℕ, ◌<◌, Bool, true, List, length, All, IsTrue}
use Rattle.mt_types.specs.declared.ty.Ty.{Ty}
use Rattle.mt_types.specs.declared.ty.Ty.TheVariants.{Date}
use Rattle.mt_types.specs.declared.value.Value.{Value, out-Value}
use Rattle.mt_types.specs.Fits.{fits_of}
use Rattle.mt_table.specs.declared.column.Column.{Column}
use Rattle.mt_table.specs.declared.partition.PartExpr.{PartExpr}
use Rattle.mt_table.specs.declared.partition.PartExpr.TheVariants.{Plain, Month}
use Rattle.mt_defs.specs.Metadata.{column_at}
use Rattle.mt_defs.specs.Partition.{month_at}
use Rattle.mt_defs.specs.Rows.{Row, cell}
use Rattle.mt_meta.specs.Keys.{is_scalar}

-- an expression over a column of a key's type, or over one of dates where it asks for the month
abbrev pub IsKeyExpression : List Column → PartExpr → Type 0
IsKeyExpression columns (Plain i) = (i < length columns) × (is_scalar (column_at columns i).ty ≡ true)
IsKeyExpression columns (Month i) = (i < length columns) × ((column_at columns i).ty ≡ Date)

-- expressions of a partition key, over these columns
abbrev pub ArePartitionKeys : List Column → List PartExpr → Type 0
ArePartitionKeys columns partition = All (IsKeyExpression columns) partition

-- the value is a day
abbrev pub is_day : Value → Bool
is_day value = fits_of Date value

-- a row has the value of a column, which is one of the type
abbrev pub HasValueOf : Ty → ℕ → Row → Type 0
HasValueOf ty column_index row = (column_index < length row) × IsTrue (fits_of ty (cell row column_index))

-- a row has the value that an expression is of: a day where it asks for the month
abbrev pub HasValue : Row → PartExpr → Type 0
HasValue row (Plain i) = i < length row
HasValue row (Month i) = HasValueOf Date i row

-- an expression has the same value in two rows
abbrev pub HaveSameValue : Row → Row → PartExpr → Type 0
HaveSameValue a b (Plain i) = cell a i ≡ cell b i
HaveSameValue a b (Month i) = month_at (out-Value (cell a i)) ≡ month_at (out-Value (cell b i))
