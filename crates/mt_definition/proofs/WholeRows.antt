-- Rows of the columns that a folder lists, and whole rows, with the defaults of the others.
use Rattle.std.proofs.Common.{◌≡◌, ℕ, zero, suc, ◌+◌, ◌<◌, Bool, true, false, not, ◌||◌, List, [], ◌∷◌, length, map, refl, sym, ap, subst, ◌∙◌, get_or, arith, inl, inr, eqb}
use Rattle.std.specs.Prelude.{All, IsTrue, ◌==◌, if◌then◌else◌}
use Rattle.std.specs.List.{range_with_len}
use Rattle.std.proofs.lemmas.Bool.{and_parts, cases_Bool, eq-eqb, eqb-true, or_parts, not-true}
use Rattle.std.proofs.lemmas.List.{ext_get_or, get_or-map, length-map}
use Rattle.std.proofs.lemmas.List.FromFn.{get_or-map-range_with_len, length-map-range_with_len}
use Rattle.std.proofs.lemmas.List.Elements.{All-head, All-map, All-tail, All-weaker}
use Rattle.mt_types.specs.declared.value.Value.{Value}
use Rattle.mt_types.specs.declared.value.Value.TheVariants.{Null}
use Rattle.mt_types.specs.Defaults.{default_of}
use Rattle.mt_types.specs.Fits.{fits_of}
use Rattle.mt_types.proofs.DefaultLemmas.{default_fits}
use Rattle.mt_table.specs.declared.column.Column.{Column}
use Rattle.mt_table.specs.Kept.{is_one_of}
use Rattle.mt_table.specs.Names.{places_differ}
use Rattle.mt_table.proofs.PointwiseLemmas.{Pointwise-get_or}
use Rattle.mt_defs.specs.Lists.{Pointwise}
use Rattle.mt_defs.specs.Metadata.{HasDefaults, column_at, no_column}
use Rattle.mt_defs.specs.Projections.{index_in}
use Rattle.mt_defs.specs.Rows.{Row, RowFits, cell, key_of}
use Rattle.mt_definition.specs.RowsReading.{value_in, whole_row}

-- ---- where listed places stand

-- a place that is listed stands where it is found
pub record StandsAt (order : List ℕ) (place index : ℕ) : Type 0 where
  pub within : index < length order
  pub there : get_or order index 0 ≡ place

flipped : (i j : ℕ) → (j == i) ≡ false → (eqb i j) ≡ false
flipped i j other =
    elim (cases_Bool (eqb i j)) [
      | inl same ↦ (let is = eqb-true i j same in let bad : true ≡ false = sym (eq-eqb j i (sym is)) ∙ other in cc)
      | inr e ↦ e
    ]

pub listed_stands : (order : List ℕ) (place : ℕ) → is_one_of order place ≡ true → StandsAt order place (index_in order place)
listed_stands [] place e = cc
listed_stands (first ∷ order) place e =
    let P : Bool → Type 0 = λ b. StandsAt (first ∷ order) place (if b then 0 else index_in order place + 1) in
    elim (cases_Bool (first == place)) [
      | inl same ↦ subst P (sym same) (record { within = omega arith; there = eqb-true first place same })
      | inr other ↦
          let later = listed_stands order place (ap (λ b. b || is_one_of order place) (sym (flipped place first other)) ∙ e) in
          let next : index_in order place + 1 ≡ suc (index_in order place) = omega arith in
          let inside = later.within in
          subst P (sym other) (record { within = omega (arith, inside); there = ap (λ i. get_or (first ∷ order) i 0) next ∙ later.there })
    ]

not_there : (order : List ℕ) (place k : ℕ) → is_one_of order place ≡ false → k < length order → (place == get_or order k 0) ≡ false
not_there [] place k none inside = absurd (omega (arith, inside))
not_there (i ∷ order) place zero none inside = (or_parts (eqb place i) (is_one_of order place) none).0
not_there (i ∷ order) place (suc k) none inside = not_there order place k (or_parts (eqb place i) (is_one_of order place) none).1 (omega (arith, inside))

-- no place stands twice: each is found where it stands
pub found_where_it_stands : (order : List ℕ) (k : ℕ) → places_differ order ≡ true → k < length order → index_in order (get_or order k 0) ≡ k
found_where_it_stands [] k differ inside = absurd (omega (arith, inside))
found_where_it_stands (first ∷ order) zero differ inside = ap (λ b. if b then 0 else index_in order first + 1) (eq-eqb first first refl)
found_where_it_stands (first ∷ order) (suc k) differ inside =
    let both = and_parts (not (is_one_of order first)) (places_differ order) differ in
    let place : ℕ = get_or order k 0 in
    let next : k + 1 ≡ suc k = omega arith in
    ap (λ b. if b then 0 else index_in order place + 1) (not_there order first k (not-true (is_one_of order first) both.0) (omega (arith, inside)))
    ∙ ap (λ n. n + 1) (found_where_it_stands order k both.1 (omega (arith, inside))) ∙ next

-- what stands in an order is listed
pub stands_listed : (order : List ℕ) (k : ℕ) → k < length order → is_one_of order (get_or order k 0) ≡ true
stands_listed [] k inside = absurd (omega (arith, inside))
stands_listed (first ∷ order) zero inside = ap (λ b. b || is_one_of order first) (eq-eqb first first refl)
stands_listed (first ∷ order) (suc k) inside = or_later (eqb (get_or order k 0) first) (is_one_of order (get_or order k 0)) (stands_listed order k (omega (arith, inside)))
  where
    or_later : (a b : Bool) → b ≡ true → (a || b) ≡ true
    or_later true b e = refl
    or_later false b e = e

-- ---- one row

module _ (columns : List Column) (order : List ℕ) where
  pub whole_at : (row : Row) (i : ℕ) → i < length columns → cell (whole_row columns order row) i ≡ value_in columns order row i
  whole_at row i inside = get_or-map-range_with_len (value_in columns order row) 0 (length columns) i i Null inside (omega arith)

  pub whole_long : (row : Row) → length (whole_row columns order row) ≡ length columns
  whole_long row = length-map-range_with_len (value_in columns order row) 0 (length columns)

  key_at : (row : Row) (k : ℕ) → k < length order → cell (key_of order row) k ≡ cell row (get_or order k 0)
  key_at row k inside = get_or-map (cell row) order k 0 Null inside

  -- from the listed columns to all and back
  there : All (λ i. i < length columns) order → places_differ order ≡ true → (row : Row) → length row ≡ length order → row ≡ key_of order (whole_row columns order row)
  there known differ row long =
      let whole : Row = whole_row columns order row in
      ext_get_or Null row (key_of order whole) (long ∙ sym (length-map order (cell whole))) (λ k inside.
      let here : k < length order = omega (arith, inside, long) in
      let place : ℕ = get_or order k 0 in
      sym (key_at whole k here ∙ whole_at row place (known k 0 here)
      ∙ ap (λ (b : Bool). if b then cell row (index_in order place) else default_of (column_at columns place).ty) (stands_listed order k here)
      ∙ ap (cell row) (found_where_it_stands order k differ here)))

  -- from all columns to the listed and back
  back : (row : Row) → length row ≡ length columns → HasDefaults columns order row → row ≡ whole_row columns order (key_of order row)
  back row long defaults =
      let key : Row = key_of order row in
      ext_get_or Null row (whole_row columns order key) (long ∙ sym (whole_long key)) (λ i inside.
      let here : i < length columns = omega (arith, inside, long) in
      let P : Bool → Type 0 = λ b. cell row i ≡ (if b then cell key (index_in order i) else default_of (column_at columns i).ty) in
      let same : cell row i ≡ value_in columns order key i =
      elim (cases_Bool (is_one_of order i)) [
        | inl is ↦ (let at = listed_stands order i is in subst P (sym is) (sym (key_at row (index_in order i) at.within ∙ ap (cell row) at.there)))
        | inr none ↦ subst P (sym none) (defaults i here none)
      ] in
      same ∙ sym (whole_at key i here))

  lacks_none : (row : Row) → HasDefaults columns order (whole_row columns order row)
  lacks_none row i inside none = whole_at row i inside ∙ ap (λ (b : Bool). if b then cell row (index_in order i) else default_of (column_at columns i).ty) none

  -- ---- rows

  pub rows_there : (rows : List Row) → All (λ i. i < length columns) order → places_differ order ≡ true → All (λ row. length row ≡ length order) rows → rows ≡ map (key_of order) (map (whole_row columns order) rows)
  rows_there [] known differ long = refl
  rows_there (row ∷ rows) known differ long =
      ap (λ (r : Row). r ∷ rows) (there known differ row (All-head (λ row. length row ≡ length order) row rows long))
      ∙ ap (λ (rs : List Row). key_of order (whole_row columns order row) ∷ rs) (rows_there rows known differ (All-tail (λ row. length row ≡ length order) row rows long))

  pub rows_back : (rows : List Row) → All (λ row. length row ≡ length columns) rows → All (HasDefaults columns order) rows → rows ≡ map (whole_row columns order) (map (key_of order) rows)
  rows_back [] long defaults = refl
  rows_back (row ∷ rows) long defaults =
      ap (λ (r : Row). r ∷ rows) (back row (All-head (λ row. length row ≡ length columns) row rows long) (All-head (HasDefaults columns order) row rows defaults))
      ∙ ap (λ (rs : List Row). whole_row columns order (key_of order row) ∷ rs)
      (rows_back rows (All-tail (λ row. length row ≡ length columns) row rows long) (All-tail (HasDefaults columns order) row rows defaults))

  pub rows_lack_none : (rows : List Row) → All (HasDefaults columns order) (map (whole_row columns order) rows)
  rows_lack_none rows = All-map (HasDefaults columns order) (whole_row columns order) rows (λ k d inside. lacks_none (get_or rows k d))

-- ---- whole rows fit

abbrev Fits : Column → Value → Type 0
Fits column value = IsTrue (fits_of column.ty value)

Pointwise-from : {A B : Type 0} (R : A → B → Type 0) (xs : List A) (ys : List B) (d : A) (e : B) → length xs ≡ length ys → ((i : ℕ) → i < length xs → R (get_or xs i d) (get_or ys i e)) → Pointwise R xs ys
Pointwise-from R [] [] d e long each = tt
Pointwise-from R [] (y ∷ ys) d e long each = absurd (omega (arith, long))
Pointwise-from R (x ∷ xs) [] d e long each = absurd (omega (arith, long))
Pointwise-from R (x ∷ xs) (y ∷ ys) d e long each = (each 0 (omega arith), Pointwise-from R xs ys d e (omega (arith, long)) (λ i inside. each (suc i) (omega (arith, inside))))

row_fits : (columns : List Column) (order : List ℕ) (row : Row) → RowFits (map (column_at columns) order) row → RowFits columns (whole_row columns order row)
row_fits columns order row fits =
    Pointwise-from Fits columns (whole_row columns order row) no_column Null (sym (whole_long columns order row))
    (λ i inside.
    let column : Column = column_at columns i in
    let value : Fits column (value_in columns order row i) =
    elim (cases_Bool (is_one_of order i)) [
      | inl is ↦
          let k : ℕ = index_in order i in
          let at = listed_stands order i is in
          let within : k < length (map (column_at columns) order) = (let size = length-map order (column_at columns) in let inside = at.within in omega (arith, inside, size)) in
          let here : Fits (get_or (map (column_at columns) order) k no_column) (cell row k) = Pointwise-get_or Fits (map (column_at columns) order) row k no_column Null fits within in
          let same : get_or (map (column_at columns) order) k no_column ≡ column = get_or-map (column_at columns) order k 0 no_column at.within ∙ ap (column_at columns) at.there in
          subst (λ (b : Bool). Fits column (if b then cell row k else default_of column.ty)) (sym is) (subst (λ (c : Column). Fits c (cell row k)) same here)
      | inr none ↦ subst (λ (b : Bool). Fits column (if b then cell row (index_in order i) else default_of column.ty)) (sym none) (default_fits column.ty)
    ] in
    subst (Fits column) (sym (whole_at columns order row i inside)) value)

pub rows_fit : (columns : List Column) (order : List ℕ) (rows : List Row) → All (RowFits (map (column_at columns) order)) rows → All (RowFits columns) (map (whole_row columns order) rows)
rows_fit columns order rows fit =
    All-map (RowFits columns) (whole_row columns order) rows
    (All-weaker (RowFits (map (column_at columns) order)) (λ row. RowFits columns (whole_row columns order row)) (λ row fits. row_fits columns order row fits) rows fit)
