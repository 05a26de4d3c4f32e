-- Rows whose values are of their columns' types, as they gain a column.
use Rattle.std.proofs.Common.{◌≡◌, ℕ, zero, suc, ◌+◌, ◌≤◌, Bool, List, [], ◌∷◌, ◌++◌, length, take, get_or, ap, sym, ◌∙◌, subst, arith}
use Rattle.std.specs.Prelude.{All, IsTrue, replicate}
use Rattle.std.specs.List.{list_all}
use Rattle.std.proofs.lemmas.Bool.{and_parts, and_from}
use Rattle.std.proofs.lemmas.List.{take_all, take_more}
use Rattle.std.proofs.lemmas.List.Folds.{list_all-append}
use Rattle.std.proofs.lemmas.List.Elements.{All-cons, All-head, All-nil, All-tail}
use Rattle.mt_types.specs.declared.value.Value.{Value}
use Rattle.mt_types.specs.Fits.{fits_of}
use Rattle.mt_table.specs.declared.column.Column.{Column}
use Rattle.mt_defs.specs.Rows.{Row, RowFits}
use Rattle.mt_granules.specs.ColumnRows.{all_values, rows_of, with_column}
use Rattle.mt_granules.proofs.RowLemmas.{column_added, empty_rows, length-rows_of, values_more}

row_fits_more : (columns : List Column) (column : Column) (row : Row) (v : Value) → RowFits columns row → IsTrue (fits_of column.ty v) → RowFits (columns ++ column ∷ []) (row ++ v ∷ [])
row_fits_more [] column [] v fits fit = (fit, tt)
row_fits_more [] column (w ∷ row) v fits fit = absurd fits
row_fits_more (c ∷ columns) column [] v fits fit = absurd fits
row_fits_more (c ∷ columns) column (w ∷ row) v fits fit = (fits.0, row_fits_more columns column row v fits.1 fit)

-- a column's values are added to rows of the columns before
pub added_fit : (columns : List Column) (column : Column) (rows : List Row) (values : List Value) → length values ≡ length rows → All (RowFits columns) rows → IsTrue (list_all (fits_of column.ty) values)
    → All (RowFits (columns ++ column ∷ [])) (with_column rows values)
added_fit columns column [] values many are fit = All-nil (RowFits (columns ++ column ∷ []))
added_fit columns column (row ∷ rows) [] many are fit = absurd (omega (arith, many))
added_fit columns column (row ∷ rows) (v ∷ values) many are fit =
    let p = and_parts (fits_of column.ty v) (list_all (fits_of column.ty) values) fit in
    All-cons (RowFits (columns ++ column ∷ [])) (row ++ v ∷ []) (with_column rows values) (row_fits_more columns column row v (All-head (RowFits columns) row rows are) p.0)
    (added_fit columns column rows values (omega (arith, many)) (All-tail (RowFits columns) row rows are) p.1)

-- the same of the columns up to an index
pub column_fits : (columns : List Column) (i : ℕ) (column : Column) (rows new : List Row) (values : List Value) → suc i ≤ length columns → column ≡ get_or columns i column → length values ≡ length rows → new ≡ with_column rows values
    → All (RowFits (take i columns)) rows → IsTrue (list_all (fits_of column.ty) values) → All (RowFits (take (i + 1) columns)) new
column_fits columns i column rows new values h at many new_is are fit =
    subst (λ (cs : List Column). All (RowFits cs) new) (ap (λ (c : Column). take i columns ++ c ∷ []) at ∙ sym (take_more columns i column h))
    (subst (All (RowFits (take i columns ++ column ∷ []))) (sym new_is) (added_fit (take i columns) column rows values many are fit))

-- all columns
pub all_fit : (columns : List Column) (i : ℕ) (rows : List Row) → length columns ≤ i → All (RowFits (take i columns)) rows → All (RowFits columns) rows
all_fit columns i rows h are = subst (λ (cs : List Column). All (RowFits cs) rows) (take_all i columns h) are

no_values : (count : ℕ) → All (RowFits []) (replicate count [])
no_values zero = All-nil (RowFits [])
no_values (suc count) = All-cons (RowFits []) [] (replicate count []) tt (no_values count)

-- the first column
pub first_fits : (columns others : List Column) (column : Column) (count : ℕ) (rows : List Row) (values : List Value) → columns ≡ column ∷ others → length values ≡ count → rows ≡ rows_of count (values ∷ [])
    → IsTrue (list_all (fits_of column.ty) values) → All (RowFits (take 1 columns)) rows
first_fits columns others column count rows values split many rows_are fit =
    let none : All (RowFits []) (rows_of count []) = subst (All (RowFits [])) (empty_rows count) (no_values count) in
    subst (λ (cs : List Column). All (RowFits (take 1 cs)) rows) (sym split)
    (subst (All (RowFits (column ∷ []))) (sym (rows_are ∙ column_added count [] values many)) (added_fit [] column (rows_of count []) values (many ∙ sym (length-rows_of count [])) none fit))

-- a granule more
pub granule_fits : (fits : Value → Bool) (values new : List (List Value)) (here : List Value) → new ≡ values ++ here ∷ [] → IsTrue (list_all fits (all_values values)) → IsTrue (list_all fits here) → IsTrue (list_all fits (all_values new))
granule_fits fits values new here is are fit =
    ap (λ (vs : List (List Value)). list_all fits (all_values vs)) is ∙ ap (list_all fits) (values_more values here) ∙ list_all-append fits (all_values values) here ∙ and_from _ _ are fit
