-- Cells: the values of all columns and their elements are not more than the cells of the rows.
use Rattle.std.proofs.Common.{◌≡◌, ℕ, zero, suc, ◌+◌, ◌≤◌, List, [], ◌∷◌, length, drop, refl, ap, ◌∙◌, arith}
use Rattle.std.specs.List.{enumerate_from, sum_by}
use Rattle.std.proofs.lemmas.List.{length-map}
use Rattle.std.proofs.lemmas.List.Sums.{sum-map, sum_by-cons}
use Rattle.mt_types.specs.declared.value.Value.{Value, map-Value, out-Value}
use Rattle.mt_types.specs.declared.value.Value.TheOpen.{Value-F}
use Rattle.mt_types.specs.declared.value.Value.TheVariants.{Null, outs-Null}
use Rattle.mt_types.specs.declared.value.Value.TheFolds.{fold_out-Value}
use Rattle.mt_table.specs.declared.column.Column.{Column}
use Rattle.mt_table.specs.Rows.{element_count_step}
use Rattle.mt_defs.specs.Rows.{Row, cell, cell_count, column_values, element_count}

-- the values and the elements in them
abbrev pub cells_of : List Value → ℕ
cells_of values = length values + sum_by element_count values

-- ---- the elements of a value

pub elements_at : (value : Value) (level : Value-F Value) → out-Value value ≡ level → element_count value ≡ element_count_step (map-Value Value ℕ element_count level)
elements_at value level is = fold_out-Value ℕ element_count_step value ∙ ap (λ l. element_count_step (map-Value Value ℕ element_count l)) is

-- those of a list, and those in them
pub list_cells : (value : Value) (items : List Value) → out-Value value ≡ Value-F.List items → element_count value ≡ cells_of items
list_cells value items is =
    let count = length-map items element_count in
    let total = sum-map element_count items in
    elements_at value (Value-F.List items) is ∙ omega (arith, count, total)

-- ---- the cells of some rows

-- the columns with their indexes, from an index on
abbrev numbered : ℕ → List Column → List (ℕ × Column)
numbered i columns = enumerate_from i columns

-- the elements of a row in a column
abbrev elements_in : Row → ℕ × Column → ℕ
elements_in row (i, column) = element_count (cell row i)

-- the cells of a column
abbrev pub cells_in : List Row → ℕ × Column → ℕ
cells_in rows (i, column) = cells_of (column_values i rows)

-- a cell, and the row behind it
cell_left : (row : Row) (i : ℕ) → element_count (cell row i) + sum_by element_count (drop (suc i) row) ≤ sum_by element_count (drop i row)
cell_left [] zero = omega (arith, elements_at Null Value-F.Null outs-Null)
cell_left [] (suc i) = omega (arith, elements_at Null Value-F.Null outs-Null)
cell_left (value ∷ row) zero = omega (arith, sum_by-cons element_count value row)
cell_left (value ∷ row) (suc i) = cell_left row i

row_elements : (i : ℕ) (columns : List Column) (row : Row) → sum_by (elements_in row) (numbered i columns) ≤ sum_by element_count (drop i row)
row_elements i [] row = omega arith
row_elements i (column ∷ columns) row =
    let next : i + 1 ≡ suc i = omega arith in
    let behind = ap (λ n. sum_by element_count (drop n row)) next in
    omega (arith, cell_left row i, behind, row_elements (i + 1) columns row, sum_by-cons (elements_in row) (i, column) (numbered (i + 1) columns))

-- a row has a cell in each column, and its elements
row_cells : (i : ℕ) (columns : List Column) (row : Row) (rows : List Row)
    → sum_by (cells_in (row ∷ rows)) (numbered i columns) ≡ length columns + sum_by (elements_in row) (numbered i columns) + sum_by (cells_in rows) (numbered i columns)
row_cells i [] row rows = refl
row_cells i (column ∷ columns) row rows =
    let more = numbered (i + 1) columns in
    let here = sum_by-cons element_count (cell row i) (column_values i rows) in
    omega (arith, here, row_cells (i + 1) columns row rows, sum_by-cons (cells_in (row ∷ rows)) (i, column) more, sum_by-cons (elements_in row) (i, column) more, sum_by-cons (cells_in rows) (i, column) more)

no_cells : (i : ℕ) (columns : List Column) → sum_by (cells_in []) (numbered i columns) ≡ 0
no_cells i [] = refl
no_cells i (column ∷ columns) = sum_by-cons (cells_in []) (i, column) (numbered (i + 1) columns) ∙ omega (arith, no_cells (i + 1) columns)

-- the cells of all columns are those of the rows
pub columns_cells : (columns : List Column) (rows : List Row) → sum_by (cells_in rows) (enumerate_from 0 columns) ≤ cell_count columns rows
columns_cells columns [] = omega (arith, no_cells 0 columns)
columns_cells columns (row ∷ rows) =
    omega (arith, row_cells 0 columns row rows, row_elements 0 columns row, columns_cells columns rows, sum_by-cons (λ (row : Row). sum_by element_count row) row rows)
