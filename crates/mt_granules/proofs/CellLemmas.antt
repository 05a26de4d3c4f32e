-- The values of a column that fit.
use Rattle.std.proofs.Common.{◌≡◌, ℕ, ◌<◌, true, List, [], ◌∷◌, length, get_or, refl, sym, subst, arith}
use Rattle.std.specs.Prelude.{All, IsTrue}
use Rattle.std.specs.List.{list_all}
use Rattle.std.proofs.lemmas.Bool.{and_from}
use Rattle.std.proofs.lemmas.List.Elements.{All-head, All-tail, All-nil, All-cons, All-get_or, All-weaker}
use Rattle.mt_types.specs.declared.ty.Ty.{Ty}
use Rattle.mt_types.specs.declared.value.Value.{Value}
use Rattle.mt_types.specs.declared.value.Value.TheVariants.{Null}
use Rattle.mt_types.specs.Fits.{fits_of}
use Rattle.mt_types.specs.Profile.{is_profile}
use Rattle.mt_table.specs.declared.column.Column.{Column}
use Rattle.mt_table.proofs.PointwiseLemmas.{Pointwise-get_or, Pointwise-length}
use Rattle.mt_defs.specs.Rows.{Row, RowFits, cell, column_values}
use Rattle.mt_granules.specs.CellColumns.{HasValues}

abbrev IsThere : Ty → ℕ → Row → Type 0
IsThere ty k row = (k < length row) × IsTrue (fits_of ty (cell row k))

pub column_fit : (ty : Ty) (k : ℕ) (rows : List Row) → HasValues ty k rows → list_all (fits_of ty) (column_values k rows) ≡ true
column_fit ty k [] are = refl
column_fit ty k (row ∷ rows) are = and_from _ _ (All-head (IsThere ty k) row rows are).1 (column_fit ty k rows (All-tail (IsThere ty k) row rows are))

pub column_there : (ty : Ty) (k : ℕ) (rows : List Row) → HasValues ty k rows → All (λ row. k < length row) rows
column_there ty k [] are = All-nil (λ (row : Row). k < length row)
column_there ty k (row ∷ rows) are = All-cons (λ (row : Row). k < length row) row rows (All-head (IsThere ty k) row rows are).0 (column_there ty k rows (All-tail (IsThere ty k) row rows are))

-- rows that fit have values of each column
pub column_values_fit : (columns : List Column) (rows : List Row) (i : ℕ) (column : Column) → i < length columns → column ≡ get_or columns i column → All (RowFits columns) rows → HasValues column.ty i rows
column_values_fit columns rows i column h is fit =
    All-weaker (RowFits columns) (IsThere column.ty i) (λ row fits.
    let long = Pointwise-length (λ (c : Column) (value : Value). IsTrue (fits_of c.ty value)) columns row fits in
    let P : Column → Type 0 = λ c. IsTrue (fits_of c.ty (cell row i)) in
    (omega arith, subst P (sym is) (Pointwise-get_or (λ (c : Column) (value : Value). IsTrue (fits_of c.ty value)) columns row i column Null fits h))) rows fit

-- a column of the profile
pub column_profile : (columns : List Column) (i : ℕ) (column : Column) → i < length columns → column ≡ get_or columns i column → All (λ c. IsTrue (is_profile c.ty)) columns → IsTrue (is_profile column.ty)
column_profile columns i column h is are =
    let P : Column → Type 0 = λ c. IsTrue (is_profile c.ty) in
    subst P (sym is) (All-get_or P columns i column h are)
