-- Rows of all columns, of rows of those that a folder lists.
use Rattle.std.proofs.Common.{◌≡◌, ℕ, zero, suc, ◌+◌, ◌<◌, ◌≤◌, Bool, true, false, List, [], ◌∷◌, ◌++◌, length, map, refl, ap, sym, subst, ◌∙◌, get_or, arith, inl, inr, eqb}
use Rattle.std.specs.Prelude.{All, IfSome, Option, Some, None, ◌||◌, ◌==◌, if◌then◌else◌, cond, not, nat_eq, nat_lt, slice_set}
use Rattle.std.specs.List.{position_or_len, range_with_len}
use Rattle.std.proofs.lemmas.Bool.{cases_Bool, eq-eqb, eqb-true, false_from_ne_true, lt-ltb, ltb-false, ltb-true}
use Rattle.std.proofs.lemmas.List.{length-map, get_or-map, map-append, get_or_default}
use Rattle.std.proofs.lemmas.List.Elements.{All-head, All-tail}
use Rattle.std.proofs.lemmas.List.FromFn.{length-range_with_len, get_or-range_with_len}
use Rattle.mt_types.specs.declared.value.Value.{Value}
use Rattle.mt_types.specs.declared.value.Value.TheVariants.{Null}
use Rattle.mt_types.specs.Defaults.{default_of}
use Rattle.mt_table.specs.declared.column.Column.{Column}
use Rattle.mt_table.specs.Kept.{is_one_of}
use Rattle.mt_defs.specs.Metadata.{column_at}
use Rattle.mt_defs.specs.Projections.{index_in}
use Rattle.mt_defs.specs.Rows.{Row, cell}
use Rattle.mt_definition.specs.ListedPlaces.{ArePlaces, IsRowBy, left_by, listed_place, value_by}
use Rattle.mt_definition.specs.RowsReading.{value_in, whole_row}
use Rattle.mt_definition.proofs.OrderLemmas.{range_push, length_set}
use Rattle.mt_definition.proofs.WholeRows.{listed_stands, stands_listed, whole_at, whole_long}

same_lists : {X : Type 0} (xs ys : List X) (d : X) → length xs ≡ length ys → ((i : ℕ) → i < length xs → get_or xs i d ≡ get_or ys i d) → xs ≡ ys
same_lists [] [] d long each = refl
same_lists [] (y ∷ ys) d long each = absurd (omega (arith, long))
same_lists (x ∷ xs) [] d long each = absurd (omega (arith, long))
same_lists {X} (x ∷ xs) (y ∷ ys) d long each =
    ap (λ (v : X). v ∷ xs) (each 0 (omega arith)) ∙ ap (λ (vs : List X). y ∷ vs) (same_lists xs ys d (omega (arith, long)) (λ i inside. each (suc i) (omega (arith, inside))))

range_at : (n i : ℕ) → i < n → get_or (range_with_len 0 n) i 0 ≡ i
range_at n i inside = let e = get_or-range_with_len 0 n i 0 inside in omega (arith, e)

-- ---- rows that have all columns at their places

-- a column that stands at its place is found there
in_place : (order : List ℕ) (n i : ℕ) → order ≡ range_with_len 0 n → i < n → (is_one_of order i ≡ true) × (index_in order i ≡ i)
in_place order n i is inside =
    let size : length order ≡ n = ap length is ∙ length-range_with_len 0 n in
    let at : get_or order i 0 ≡ i = ap (λ (o : List ℕ). get_or o i 0) is ∙ range_at n i inside in
    let one : is_one_of order i ≡ true = subst (λ k. is_one_of order k ≡ true) at (stands_listed order i (omega (arith, inside, size))) in
    let stands = listed_stands order i one in
    let within : index_in order i < n = let w = stands.within in omega (arith, w, size) in
    (one, sym (ap (λ (o : List ℕ). get_or o (index_in order i) 0) is ∙ range_at n (index_in order i) within) ∙ stands.there)

whole_is : (columns : List Column) (order : List ℕ) (row : Row) → order ≡ range_with_len 0 (length columns) → length row ≡ length order → row ≡ whole_row columns order row
whole_is columns order row is long =
    let n = length columns in
    let size : length row ≡ n = long ∙ ap length is ∙ length-range_with_len 0 n in
    same_lists row (whole_row columns order row) Null (size ∙ sym (whole_long columns order row))
    (λ i inside.
    let there : i < n = omega (arith, inside, size) in
    let found = in_place order n i is there in
    sym (whole_at columns order row i there ∙ ap (λ b. if b then cell row (index_in order i) else default_of (column_at columns i).ty) found.0 ∙ ap (cell row) found.1))

pub whole_rows_are : (columns : List Column) (order : List ℕ) (rows : List Row) → order ≡ range_with_len 0 (length columns) → All (λ row. length row ≡ length order) rows → rows ≡ map (whole_row columns order) rows
whole_rows_are columns order [] is long = refl
whole_rows_are columns order (row ∷ rows) is long =
    ap (λ (r : Row). r ∷ rows) (whole_is columns order row is (All-head (λ row. length row ≡ length order) row rows long))
    ∙ ap (λ (rs : List Row). whole_row columns order row ∷ rs) (whole_rows_are columns order rows is (All-tail (λ row. length row ≡ length order) row rows long))

-- ---- where columns stand

flips : (x y : ℕ) → nat_eq x y ≡ nat_eq y x
flips x y =
    elim (cases_Bool (nat_eq x y)) [
      | inl same ↦ same ∙ sym (eq-eqb y x (sym (eqb-true x y same)))
      | inr other ↦ elim (cases_Bool (nat_eq y x)) [
        | inl same ↦ let turned = eq-eqb x y (sym (eqb-true y x same)) in let never : true ≡ false = sym turned ∙ other in cc
        | inr both ↦ other ∙ sym both
      ]
    ]

-- one more is as far from one more
next_less : (m n : ℕ) → nat_lt (1 + m) (suc n) ≡ nat_lt m n
next_less m n = by_test (nat_lt m n) refl
  where
    by_test : (b : Bool) → nat_lt m n ≡ b → nat_lt (1 + m) (suc n) ≡ b
    by_test true is = let less = ltb-true m n is in lt-ltb (1 + m) (suc n) (omega (arith, less))
    by_test false is = let most = ltb-false m n is in false_from_ne_true (nat_lt (1 + m) (suc n)) (λ more. let less = ltb-true (1 + m) (suc n) more in omega (arith, less, most))

-- the first that is a place, or their number
at_or_length : (order : List ℕ) (i : ℕ) → (position_or_len (λ j. j == i) order ≡ index_in order i) × (nat_lt (position_or_len (λ j. j == i) order) (length order) ≡ is_one_of order i)
at_or_length [] i = (refl, refl)
at_or_length (j ∷ order) i = by_test (j == i) (nat_eq i j) (flips i j) (at_or_length order i)
  where
    first : ℕ
    first = position_or_len (λ j. j == i) order

    by_test : (b c : Bool) → c ≡ b → (first ≡ index_in order i) × (nat_lt first (length order) ≡ is_one_of order i)
        → (cond (not b) (1 + first) 0 ≡ (if b then 0 else index_in order i + 1)) × (nat_lt (cond (not b) (1 + first) 0) (length (j ∷ order)) ≡ (c || is_one_of order i))
    by_test true true same later = (refl, lt-ltb 0 (length (j ∷ order)) (omega arith))
    by_test false false same later = (let e = later.0 in omega (arith, e), next_less first (length order) ∙ later.1)
    by_test true false same later = cc
    by_test false true same later = cc

-- where a column stands, if it is listed
abbrev place_or_none : List ℕ → ℕ → Option ℕ
place_or_none order i = if is_one_of order i then Some (index_in order i) else None

position_is : (order : List ℕ) (i : ℕ) → listed_place order i ≡ place_or_none order i
position_is order i =
    let both = at_or_length order i in
    ap (λ b. cond b (Some (position_or_len (λ j. j == i) order)) None) both.1 ∙ ap (λ k. if is_one_of order i then Some k else None) both.0

pub places_more : (order : List ℕ) (n : ℕ) → map (listed_place order) (range_with_len 0 (n + 1)) ≡ map (listed_place order) (range_with_len 0 n) ++ listed_place order n ∷ []
places_more order n =
    let next : n + 1 ≡ suc n = omega arith in
    let same : 0 + n ≡ n = omega arith in
    ap (λ k. map (listed_place order) (range_with_len 0 k)) next ∙ ap (map (listed_place order)) (range_push 0 n) ∙ map-append (listed_place order) (range_with_len 0 n) ((0 + n) ∷ [])
    ∙ ap (λ k. map (listed_place order) (range_with_len 0 n) ++ listed_place order k ∷ []) same

place_at : (order : List ℕ) (n i : ℕ) → i < n → get_or (map (listed_place order) (range_with_len 0 n)) i None ≡ listed_place order i
place_at order n i inside =
    get_or-map (listed_place order) (range_with_len 0 n) i 0 None (let size = length-range_with_len 0 n in omega (arith, inside, size)) ∙ ap (listed_place order) (range_at n i inside)

-- a place is that of its column
place_some : (order : List ℕ) (i k : ℕ) → listed_place order i ≡ Some k → (k < length order) × (get_or order k 0 ≡ i)
place_some order i k e = by_test (is_one_of order i) refl (sym (position_is order i) ∙ e)
  where
    by_test : (b : Bool) → is_one_of order i ≡ b → (if b then Some (index_in order i) else None) ≡ Some k → (k < length order) × (get_or order k 0 ≡ i)
    by_test true one e =
        let same : index_in order i ≡ k = cc in
        let stands = listed_stands order i one in
        (let w = stands.within in omega (arith, w, same), ap (λ j. get_or order j 0) (sym same) ∙ stands.there)
    by_test false none e = cc

pub are_places : (order : List ℕ) (n : ℕ) → ArePlaces (length order) (map (listed_place order) (range_with_len 0 n))
are_places order n =
    let places = map (listed_place order) (range_with_len 0 n) in
    let size : length places ≡ n = length-map (range_with_len 0 n) (listed_place order) ∙ length-range_with_len 0 n in
    record {
      within = λ i d inside.
          let there : i < n = omega (arith, inside, size) in
          subst (λ p. IfSome p (λ k. k < length order)) (sym (get_or_default places i d None inside ∙ place_at order n i there)) (by_place i (listed_place order i) refl);
      apart = λ i j k first second here also.
          let at_i = (place_some order i k (sym (place_at order n i (omega (arith, first, size))) ∙ here)).1 in
          let at_j = (place_some order j k (sym (place_at order n j (omega (arith, second, size))) ∙ also)).1 in
          sym at_i ∙ at_j;
    }
  where
    by_place : (i : ℕ) (p : Option ℕ) → listed_place order i ≡ p → IfSome p (λ k. k < length order)
    by_place i None is = tt
    by_place i (Some k) is = (place_some order i k is).0

-- ---- a row by places

value_is : (columns : List Column) (order : List ℕ) (row : Row) (i : ℕ) → value_by (column_at columns i) row (listed_place order i) ≡ value_in columns order row i
value_is columns order row i = ap (value_by (column_at columns i) row) (position_is order i) ∙ by_test (is_one_of order i) refl
  where
    by_test : (b : Bool) → is_one_of order i ≡ b → value_by (column_at columns i) row (if b then Some (index_in order i) else None) ≡ (if b then cell row (index_in order i) else default_of (column_at columns i).ty)
    by_test true is = refl
    by_test false is = refl

pub row_is : (columns : List Column) (order : List ℕ) (places : List (Option ℕ)) (row whole : Row) → places ≡ map (listed_place order) (range_with_len 0 (length columns)) → IsRowBy columns places row whole → whole ≡ whole_row columns order row
row_is columns order places row whole are by =
    let n = length columns in
    let long = by.long in
    same_lists whole (whole_row columns order row) Null (long ∙ sym (whole_long columns order row))
    (λ i inside.
    let there : i < n = omega (arith, inside, long) in
    by.each i there ∙ ap (λ (ps : List (Option ℕ)). value_by (column_at columns i) row (get_or ps i None)) are ∙ ap (value_by (column_at columns i) row) (place_at order n i there)
    ∙ value_is columns order row i ∙ sym (whole_at columns order row i there))

-- ---- the values that are left

get_set_other : {X : Type 0} (xs : List X) (k j : ℕ) (x d : X) → (k ≡ j → ⊥) → get_or (slice_set xs k x) j d ≡ get_or xs j d
get_set_other [] k j x d apart = refl
get_set_other (y ∷ xs) zero zero x d apart = absurd (apart refl)
get_set_other (y ∷ xs) zero (suc j) x d apart = refl
get_set_other (y ∷ xs) (suc k) zero x d apart = refl
get_set_other (y ∷ xs) (suc k) (suc j) x d apart = get_set_other xs k j x d (λ same. apart (ap suc same))

pub length_left : (values : Row) (place : Option ℕ) → length (left_by values place) ≡ length values
length_left values None = refl
length_left values (Some k) = length_set values k Null

-- the values of later columns are left
abbrev pub Left : List (Option ℕ) → Row → Row → ℕ → Type 0
Left places row values index = (i k : ℕ) → index ≤ i → i < length places → get_or places i None ≡ Some k → get_or values k Null ≡ cell row k

pub left_more : (places : List (Option ℕ)) (row values : Row) (index : ℕ) (place : Option ℕ) → ArePlaces (length row) places → index < length places → get_or places index None ≡ place → Left places row values index
    → Left places row (left_by values place) (index + 1)
left_more places row values index None are inside at left i k past within is = left i k (omega (arith, past)) within is
left_more places row values index (Some taken) are inside at left i k past within is =
    get_set_other values taken k Null Null (λ same.
    let index_is : index ≡ i = are.apart index i k inside within (at ∙ ap Some same) is in omega (arith, index_is, past))
    ∙ left i k (omega (arith, past)) within is

-- the value that is taken is the row's
pub value_taken : (places : List (Option ℕ)) (row values : Row) (column : Column) (index : ℕ) (place : Option ℕ) → index < length places → get_or places index None ≡ place → Left places row values index
    → value_by column values place ≡ value_by column row place
value_taken places row values column index None inside at left = refl
value_taken places row values column index (Some k) inside at left = left index k (omega arith) inside at
