-- Rows, their keys and columns, and the rows that a part may hold.
use Rattle.std.specs.Prelude.{◌≢◌, ℕ, ◌≤◌, List, [], length, map, All, IsSorted, slice_index_or}
use Rattle.std.specs.declared.cmp.Ordering.{Ordering}
use Rattle.mt_types.specs.declared.value.Value.{Value}
use Rattle.mt_types.specs.declared.value.Value.TheVariants.{Null}
use Rattle.mt_types.specs.Order.{values_cmp}
pub use Rattle.mt_table.specs.Rows.{RowFits, element_count, cell_count}
use Rattle.mt_table.specs.declared.definition.PartDef.{PartDef}
use Rattle.mt_table.specs.declared.limits.TheConstants.{MAX_ROWS, MAX_CELLS}

-- one value per column, in the columns' order
abbrev pub Row : Type 0
Row = List Value

-- the value of a column, by the column's index; a row that fits has one there
abbrev pub cell : Row → ℕ → Value
cell row column_index = slice_index_or row column_index Null

-- a row's values of some columns: its key, or the row with its columns in another order
abbrev pub key_of : List ℕ → Row → List Value
key_of column_indexes row = map (cell row) column_indexes

-- rows compare by their sort keys, from left to right
abbrev pub key_cmp : List ℕ → Row → Row → Ordering
key_cmp sort a b = values_cmp (key_of sort a) (key_of sort b)

-- the values of a column in some rows
abbrev pub column_values : ℕ → List Row → List Value
column_values column_index rows = map (λ row. cell row column_index) rows

-- rows that a part of this definition may hold
pub record ArePartRows (definition : PartDef) (rows : List Row) : Type 0 where
  pub not_empty : rows ≢ []
  pub fit : All (RowFits definition.columns) rows
  pub ordered : IsSorted (key_cmp definition.sort) rows
  pub few_rows : length rows ≤ MAX_ROWS
  pub few_cells : cell_count definition.columns rows ≤ MAX_CELLS
