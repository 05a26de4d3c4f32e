-- Where the columns of a definition stand in the rows of the columns that a folder lists.
use Rattle.std.specs.Prelude.{◌≡◌, ℕ, ◌<◌, ◌==◌, List, length, Option, Some, None, IfSome, All, slice_index_or, slice_set}
use Rattle.std.specs.List.{position}
use Rattle.mt_types.specs.declared.value.Value.{Value}
use Rattle.mt_types.specs.declared.value.Value.TheVariants.{Null}
use Rattle.mt_types.specs.Defaults.{default_of}
use Rattle.mt_table.specs.declared.column.Column.{Column}
use Rattle.mt_defs.specs.Metadata.{column_at}
use Rattle.mt_defs.specs.Rows.{Row, cell}

-- where a column stands among those that are listed
abbrev pub listed_place : List ℕ → ℕ → Option ℕ
listed_place order i = position (λ j. j == i) order

-- the value at a place of a row, or else the default of the column's type
abbrev pub value_by : Column → Row → Option ℕ → Value
value_by column row (Some place) = cell row place
value_by column row None = default_of column.ty

-- what is left of a row once the value at a place was taken
abbrev pub left_by : Row → Option ℕ → Row
left_by row (Some place) = slice_set row place Null
left_by row None = row

-- places of a row of so many values, no two of them the same
pub record ArePlaces (count : ℕ) (places : List (Option ℕ)) : Type 0 where
  pub within : All (λ place. IfSome place (λ k. k < count)) places
  pub apart : (i j k : ℕ) → i < length places → j < length places → slice_index_or places i None ≡ Some k → slice_index_or places j None ≡ Some k → i ≡ j

-- a row has the value of each column, taken from its place in another row
pub record IsRowBy (columns : List Column) (places : List (Option ℕ)) (row whole : Row) : Type 0 where
  pub long : length whole ≡ length columns
  pub each : (i : ℕ) → i < length columns → slice_index_or whole i Null ≡ value_by (column_at columns i) row (slice_index_or places i None)
