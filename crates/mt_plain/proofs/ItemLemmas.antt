-- The items of a column: of rows one after another, and which rows have numbers.
use Rattle.std.proofs.Common.{◌≡◌, ℕ, List, [], ◌∷◌, ◌++◌, drop, refl, ap, sym, ◌∙◌, subst, append_assoc}
use Rattle.std.specs.Prelude.{All, IsTrue}
use Rattle.std.proofs.lemmas.List.Elements.{All-drop, All-weaker}
use Rattle.mt_types.specs.declared.ty.Ty.TheVariants.{UInt}
use Rattle.mt_types.specs.declared.ty.Width.TheVariants.{W64}
use Rattle.mt_types.specs.Fits.{fits_of}
use Rattle.mt_types.specs.Items.{item_bytes}
use Rattle.mt_table.specs.declared.definition.Table.{Table}
use Rattle.mt_table.specs.Form.{IsNumbersTable, uint64_column}
use Rattle.mt_defs.specs.Rows.{Row, RowFits, cell}
use Rattle.mt_plain.specs.NumberRows.{AreNumberRows, HasNumbers, items_of_column}

-- ---- which rows have numbers

-- a row of two columns of numbers
pub record IsNumberRow (row : Row) : Type 0 where
  pub at_first : IsTrue (fits_of (UInt W64) (cell row 0))
  pub at_second : IsTrue (fits_of (UInt W64) (cell row 1))

number_row : (first second : List ℕ) (row : Row) → RowFits (uint64_column first ∷ uint64_column second ∷ []) row → IsNumberRow row
number_row first second [] fits = absurd fits
number_row first second (a ∷ []) fits = absurd fits.1
number_row first second (a ∷ b ∷ []) fits = record { at_first = fits.0; at_second = fits.1.0 }
number_row first second (a ∷ b ∷ c ∷ row) fits = absurd fits.1.1

pub columns_are : (table : Table) (form : IsNumbersTable table) → table.columns ≡ uint64_column form.first ∷ uint64_column form.second ∷ []
columns_are table form = ap (λ t. t.columns) form.is

number_rows : (table : Table) (rows : List Row) → AreNumberRows table rows → All IsNumberRow rows
number_rows table rows are =
    All-weaker (RowFits table.columns) IsNumberRow
    (λ row fits. number_row are.form.first are.form.second row (subst (λ columns. RowFits columns row) (columns_are table are.form) fits)) rows are.fit

pub first_numbers : (table : Table) (rows : List Row) → AreNumberRows table rows → HasNumbers 0 rows
first_numbers table rows are = All-weaker IsNumberRow (λ row. IsTrue (fits_of (UInt W64) (cell row 0))) (λ row is. is.at_first) rows (number_rows table rows are)

pub second_numbers : (table : Table) (rows : List Row) → AreNumberRows table rows → HasNumbers 1 rows
second_numbers table rows are = All-weaker IsNumberRow (λ row. IsTrue (fits_of (UInt W64) (cell row 1))) (λ row is. is.at_second) rows (number_rows table rows are)

pub rows_dropped : (table : Table) (rows some : List Row) (n : ℕ) → AreNumberRows table rows → some ≡ drop n rows → AreNumberRows table some
rows_dropped table rows some n are is = subst (AreNumberRows table) (sym is) (record { form = are.form; fit = All-drop (RowFits table.columns) n rows are.fit })

pub numbers_dropped : (k : ℕ) (rows some : List Row) (n : ℕ) → HasNumbers k rows → some ≡ drop n rows → HasNumbers k some
numbers_dropped k rows some n are is = subst (HasNumbers k) (sym is) (All-drop (λ row. IsTrue (fits_of (UInt W64) (cell row k))) n rows are)

-- ---- the items of some rows and of others

pub items_append : (k : ℕ) (some others : List Row) → items_of_column k (some ++ others) ≡ items_of_column k some ++ items_of_column k others
items_append k [] others = refl
items_append k (row ∷ some) others =
    ap (λ rest. item_bytes (UInt W64) (cell row k) ++ rest) (items_append k some others)
    ∙ sym (append_assoc (item_bytes (UInt W64) (cell row k)) (items_of_column k some) (items_of_column k others))
