-- Where no box of a cover may be true, no row between the two keys makes the condition true.
use Rattle.std.proofs.Common.{◌≡◌, ℕ, ◌==◌, Option, ◌&&◌, map, Bool, subst, true, false, List, [], ◌∷◌, refl, ap, sym, ◌∙◌, arith, Some}
use Rattle.std.specs.Prelude.{if◌then◌else◌}
use Rattle.std.specs.List.{list_any}
use Rattle.std.specs.Ordering.{is_le}
use Rattle.std.specs.Cmp.{first_so, second_so}
use Rattle.mt_types.specs.declared.value.Value.{Value}
use Rattle.mt_types.specs.Order.{values_cmp}
use Rattle.mt_query.specs.declared.cond.Cond.{Cond}
use Rattle.mt_defs.specs.Rows.{Row, cell}
use Rattle.mt_query.specs.Truth.{truth_of}
use Rattle.mt_table.specs.declared.column.Column.{Column}
use Rattle.mt_table.specs.Stored.{column_at}
use Rattle.mt_types.specs.Fits.{fits_of}
use Rattle.mt_query.specs.Suits.{cond_suits}
use Rattle.mt_cond.specs.declared.types.Interval.{Interval}
use Rattle.mt_cond.specs.declared.types.KeyColumn.{KeyColumn}
use Rattle.mt_cond.specs.Intervals.{is_in, interval_at, lies_in}
use Rattle.mt_cond.specs.Masks.{mask_of, allows}
use Rattle.mt_cond.specs.Cover.{Spans, sides_of, spans_between, box_may, may_hold_of, cover_of}
use Rattle.mt_cond.specs.Keys.{types_of, are_key_types, key_fits, key_values, KeyOf}
use Rattle.mt_cond.proofs.SoundLemmas.{mask_sound, Fitting, any_step}
use Rattle.mt_cond.proofs.SuitedLemmas.{Suited, suits}
use Rattle.mt_cond.proofs.KeyLemmas.{key_law, lies}
use Rattle.mt_cond.proofs.WalkLemmas.{cover_walk}

-- a row lies in a box as its key does
pub lies_row : (key : List KeyColumn) (is : Spans) (row : Row) → lies_in (sides_of key is) row ≡ lies is (key_values key row)
lies_row key [] row = refl
lies_row [] (i ∷ is) row = refl
lies_row (k ∷ ks) (i ∷ is) row = ap (λ b. is_in i (cell row k.column) && b) (lies_row ks is row)

any_more : (f g : Spans → Bool) → ((is : Spans) → f is ≡ true → g is ≡ true) → (xs : List Spans) → list_any f xs ≡ true → list_any g xs ≡ true
any_more f g h [] e = e
any_more f g h (x ∷ xs) e = any_step (f x) (g x) (list_any f xs) (list_any g xs) (h x) (any_more f g h xs) e

-- a column of the box is one of the key's
found : (columns : List Column) (row : Row) (k : KeyColumn) (j i : Interval) (rest : Option Interval) (column : ℕ) → (column_at columns k.column).ty ≡ k.ty → fits_of k.ty (cell row k.column) ≡ true
    → (rest ≡ Some i → Suited ((column_at columns column).ty) (cell row column))
    → (b : Bool) → (k.column == column) ≡ b → (if b then Some j else rest) ≡ Some i → Suited ((column_at columns column).ty) (cell row column)
found columns row k j i rest column is f more true same e =
    let at : k.column ≡ column = grind (arith, same) in
    subst (λ n. Suited (column_at columns n).ty (cell row n)) at (subst (λ t. Suited t (cell row k.column)) (sym is) (suits k.ty (cell row k.column) f))
found columns row k j i rest column is f more false other e = more e

fitting : (columns : List Column) (row : Row) (key : List KeyColumn) (is : Spans) → KeyOf columns key → key_fits (types_of key) (key_values key row) ≡ true → Fitting columns (interval_at (sides_of key is)) row
fitting columns row [] [] of f column i e = absurd cc
fitting columns row [] (j ∷ is) of f column i e = absurd cc
fitting columns row (k ∷ ks) [] of f column i e = absurd cc
fitting columns row (k ∷ ks) (j ∷ is) of f column i e =
    found columns row k j i (interval_at (sides_of ks is) column) column of.0 (first_so (fits_of k.ty (cell row k.column)) (key_fits (types_of ks) (key_values ks row)) f)
    (fitting columns row ks is of.1 (second_so (fits_of k.ty (cell row k.column)) (key_fits (types_of ks) (key_values ks row)) f) column i) (k.column == column) refl e

pub hold_sound : (columns : List Column) (c : Cond) (key : List KeyColumn) (lo hi row : List Value) → are_key_types (types_of key) ≡ true → key_fits (types_of key) lo ≡ true → key_fits (types_of key) hi ≡ true
    → is_le (values_cmp lo hi) ≡ true → cond_suits columns c ≡ true → KeyOf columns key → key_fits (types_of key) (key_values key row) ≡ true
    → is_le (values_cmp lo (key_values key row)) ≡ true → is_le (values_cmp (key_values key row) hi) ≡ true → truth_of c row ≡ Some true → may_hold_of c key lo hi ≡ true
hold_sound columns c key lo hi row types fl fh below suits of fk low high holds =
    let within : list_any (λ is. lies is (key_values key row)) (spans_between (types_of key) lo hi) ≡ true = key_law (types_of key) lo hi (key_values key row) types fl fh fk below ∙ rw (low, high) refl in
    cover_walk c key lo hi
    ∙ any_more (λ is. lies is (key_values key row)) (box_may c key) (λ is h. ap (allows (mask_of c (sides_of key is))) (sym holds) ∙ mask_sound columns c (sides_of key is) row (fitting columns row key is of fk) suits (lies_row key is row ∙ h)) (spans_between (types_of key) lo hi) within

any_rows : (key : List KeyColumn) (row : Row) (xs : List Spans) → list_any (λ sides. lies_in sides row) (map (sides_of key) xs) ≡ list_any (λ is. lies is (key_values key row)) xs
any_rows key row [] = refl
any_rows key row (x ∷ xs) = rw (lies_row key x row, any_rows key row xs) refl

pub cover_law : (key : List KeyColumn) (lo hi row : List Value) → are_key_types (types_of key) ≡ true → key_fits (types_of key) lo ≡ true → key_fits (types_of key) hi ≡ true
    → is_le (values_cmp lo hi) ≡ true → key_fits (types_of key) (key_values key row) ≡ true
    → list_any (λ sides. lies_in sides row) (cover_of key lo hi) ≡ (is_le (values_cmp lo (key_values key row)) && is_le (values_cmp (key_values key row) hi))
cover_law key lo hi row t l h below k = any_rows key row (spans_between (types_of key) lo hi) ∙ key_law (types_of key) lo hi (key_values key row) t l h k below
