-- Rows made of the values of their columns.
use Rattle.std.specs.Prelude.{ℕ, List, [], ◌∷◌, ◌++◌, map, slice_index_or}
use Rattle.std.specs.List.{flat_map, range_with_len}
use Rattle.mt_types.specs.declared.value.Value.{Value}
use Rattle.mt_types.specs.declared.value.Value.TheVariants.{Null}
use Rattle.mt_defs.specs.Rows.{Row}

-- a column's values, granule after granule
abbrev pub all_values : List (List Value) → List Value
all_values granules = flat_map (λ here. here) granules

-- the row of an index: each column's value there
abbrev pub row_at : List (List Value) → ℕ → Row
row_at columns row = map (λ values. slice_index_or values row Null) columns

-- so many rows, where each column has as many values
abbrev pub rows_of : ℕ → List (List Value) → List Row
rows_of count columns = map (row_at columns) (range_with_len 0 count)

-- rows with a value more at the end of each, as far as there are values
abbrev pub with_column : List Row → List Value → List Row
with_column [] values = []
with_column (row ∷ rows) [] = row ∷ rows
with_column (row ∷ rows) (value ∷ values) = (row ++ value ∷ []) ∷ with_column rows values
