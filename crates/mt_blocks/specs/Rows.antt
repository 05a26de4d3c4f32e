-- Rows, read off the values of columns.
use Rattle.std.specs.Prelude.{◌≡◌, ◌<◌, ℕ, List, [], length, map, All, slice_index_or, Option, Some, None}
use Rattle.std.specs.List.{range_with_len}
use Rattle.mt_types.specs.declared.value.Value.{Value}
use Rattle.mt_types.specs.declared.value.Value.TheVariants.{Null}
use Rattle.std.specs.Global.{Vec}
use Rattle.mt_defs.specs.Rows.{Row}
use Rattle.mt_defs.specs.Sorting.{sorted_rows}
use Rattle.mt_columns.specs.Nesting.{Columned}

-- the indexes of so many rows
abbrev pub indexes : ℕ → List ℕ
indexes count = range_with_len 0 count

-- the row of an index
abbrev pub row_in : List (List Value) → ℕ → Row
row_in columns index = map (λ values. slice_index_or values index Null) columns

-- the rows of columns that have so many values each
abbrev pub rows_in : List (List Value) → (count : ℕ) → List Row
rows_in columns count = map (row_in columns) (indexes count)

-- the values of a column at some indexes
abbrev pub picked : List ℕ → List Value → List Value
picked order values = map (λ index. slice_index_or values index Null) order

-- the values of each column
abbrev pub columns_in : List Columned → List (List Value)
columns_in columns = map (λ column. column.values) columns

-- each column has so many values
abbrev pub HaveRows : ℕ → List Columned → Type 0
HaveRows count columns = All (λ column. length column.values ≡ count) columns

-- the rows at some indexes
abbrev pub rows_at : List ℕ → List Row → List Row
rows_at order rows = map (λ index. slice_index_or rows index []) order

-- the indexes of rows in the order of a sort key, or nothing where the rows are in order
abbrev pub IsKeyOrder : (sort : List ℕ) → List Row → Option (Vec ℕ) → Type 0
IsKeyOrder sort rows None = rows ≡ sorted_rows sort rows
IsKeyOrder sort rows (Some order) = All (λ index. index < length rows) order.items × (rows_at order.items rows ≡ sorted_rows sort rows)
