-- The payload bytes of rows are the sum of those of each row.
use Rattle.std.proofs.Common.{◌≡◌, ℕ, suc, ◌+◌, ◌-◌, ◌<◌, ◌≤◌, ◌^◌, min, List, [], ◌∷◌, ◌++◌, length, map, take, get_or, refl, ap, sym, ◌∙◌, arith}
use Rattle.std.specs.List.{sum, sum_by, enumerate_from}
use Rattle.std.proofs.lemmas.List.{map-append, take_more, take_all, length-take-le}
use Rattle.std.proofs.lemmas.List.Sums.{sum_by-cons, sum-map}
use Rattle.mt_table.specs.declared.column.Column.{Column}
use Rattle.mt_defs.specs.Rows.{Row, cell, column_values}
use Rattle.mt_defs.specs.WrittenGranules.{column_size, payload_size}
use Rattle.mt_layout.specs.Sizes.{value_size, row_size, saturated}
use Rattle.mt_layout.proofs.StreamLemmas.{streams_size, additive, doubled, regrouped}

-- the payload bytes of columns from an index on
abbrev pub columns_size : ℕ → List Column → List Row → ℕ
columns_size column_index columns rows = sum (map (column_size rows) (enumerate_from column_index columns))

column_size-append : (column_index : ℕ) (column : Column) (xs ys : List Row) → column_size (xs ++ ys) (column_index, column) ≡ column_size xs (column_index, column) + column_size ys (column_index, column)
column_size-append column_index column xs ys =
    ap (streams_size column.ty) (map-append (λ row. cell row column_index) xs ys) ∙ additive column.ty (column_values column_index xs) (column_values column_index ys)

-- the bytes of the first column, and those of the others
pub columns_size-cons : (column_index : ℕ) (column : Column) (columns : List Column) (rows : List Row) → columns_size column_index (column ∷ columns) rows ≡ column_size rows (column_index, column) + columns_size (column_index + 1) columns rows
columns_size-cons column_index column columns rows = sum_by-cons (λ n. n) (column_size rows (column_index, column)) (map (column_size rows) (enumerate_from (column_index + 1) columns))

pub columns_size-append : (column_index : ℕ) (columns : List Column) (xs ys : List Row) → columns_size column_index columns (xs ++ ys) ≡ columns_size column_index columns xs + columns_size column_index columns ys
columns_size-append column_index [] xs ys = refl
columns_size-append column_index (column ∷ columns) xs ys =
    regrouped _ _ _ _ _ _ _ _ _ (columns_size-cons column_index column columns (xs ++ ys)) (column_size-append column_index column xs ys)
    (columns_size-append (column_index + 1) columns xs ys) (columns_size-cons column_index column columns xs) (columns_size-cons column_index column columns ys)

-- one row more
pub payload_size-push : (columns : List Column) (rows : List Row) (row : Row) → payload_size columns (rows ++ row ∷ []) ≡ payload_size columns rows + row_size columns row
unfolding row_size
payload_size-push columns rows row = columns_size-append 0 columns rows (row ∷ [])

-- no rows have no bytes
pub payload_size-none : (columns : List Column) → payload_size columns [] ≡ 0
payload_size-none columns = doubled (payload_size columns []) (columns_size-append 0 columns [] [])

payload_size_by : (columns : List Column) (rows : List Row) → payload_size columns rows ≡ sum_by (row_size columns) rows
unfolding row_size
payload_size_by columns [] = payload_size-none columns
payload_size_by columns (row ∷ rows) =
    columns_size-append 0 columns (row ∷ []) rows ∙ ap (λ n. payload_size columns (row ∷ []) + n) (payload_size_by columns rows)
    ∙ sym (sum_by-cons (row_size columns) row rows)

pub payload_size_is : (columns : List Column) (rows : List Row) → payload_size columns rows ≡ sum (map (row_size columns) rows)
payload_size_is columns rows = payload_size_by columns rows ∙ sym (sum-map (row_size columns) rows)

-- ---- one column more

moved : (x y : ℕ) → x ≡ y → x + 0 ≡ 0 + y
moved x y e = omega arith

together : (a b c d e : ℕ) → d ≡ a + b → c ≡ e → a + (b + c) ≡ d + e
together a b c d e p q = omega arith

counted : (n m : ℕ) → n + 1 + m ≡ n + suc m
counted n m = omega arith

pub columns_size-push : (column_index : ℕ) (columns : List Column) (column : Column) (rows : List Row)
    → columns_size column_index (columns ++ column ∷ []) rows ≡ columns_size column_index columns rows + column_size rows (column_index + length columns, column)
columns_size-push column_index [] column rows =
    columns_size-cons column_index column [] rows ∙ moved (column_size rows (column_index, column)) (column_size rows (column_index + 0, column)) (ap (λ i. column_size rows (i, column)) (omega arith))
columns_size-push column_index (first ∷ columns) column rows =
    columns_size-cons column_index first (columns ++ column ∷ []) rows
    ∙ ap (λ n. column_size rows (column_index, first) + n) (columns_size-push (column_index + 1) columns column rows)
    ∙ together _ _ _ _ _ (columns_size-cons column_index first columns rows) (ap (λ i. column_size rows (i, column)) (counted column_index (length columns)))

added : (both size more x y whole : ℕ) → both ≡ min (size + more) (2 ^ 64 - 1) → size ≡ saturated x → more ≡ saturated y → whole ≡ x + y → both ≡ saturated whole
added both size more x y whole s p q r = omega arith

from_zero : (n i : ℕ) → n ≡ i → 0 + n ≡ i
from_zero n i e = omega arith

-- a row's bytes of the columns so far, and those of one column more
pub one_more_column : (columns : List Column) (row : Row) (i : ℕ) (column : Column) (size more both : ℕ) → i < length columns → column ≡ get_or columns i column
    → size ≡ saturated (columns_size 0 (take i columns) (row ∷ [])) → more ≡ saturated (value_size column.ty (cell row i)) → both ≡ min (size + more) (2 ^ 64 - 1)
    → both ≡ saturated (columns_size 0 (take (i + 1) columns) (row ∷ []))
unfolding value_size
one_more_column columns row i column size more both within is sized one all =
    let so_far : 0 + length (take i columns) ≡ i = from_zero _ i (length-take-le i columns (omega arith)) in
    let taken : take (i + 1) columns ≡ take i columns ++ column ∷ [] = take_more columns i column within ∙ ap (λ c. take i columns ++ c ∷ []) (sym is) in
    added both size more _ _ _ all sized one
    (ap (λ cs. columns_size 0 cs (row ∷ [])) taken ∙ columns_size-push 0 (take i columns) column (row ∷ [])
    ∙ ap (λ j. columns_size 0 (take i columns) (row ∷ []) + column_size (row ∷ []) (j, column)) so_far)

-- the bytes of all columns
pub all_columns : (columns : List Column) (row : Row) (i size : ℕ) → length columns ≤ i → size ≡ saturated (columns_size 0 (take i columns) (row ∷ [])) → size ≡ saturated (row_size columns row)
unfolding row_size
all_columns columns row i size whole sized = sized ∙ ap (λ cs. saturated (columns_size 0 cs (row ∷ []))) (take_all i columns whole)
