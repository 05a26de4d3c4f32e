-- Lists by their indexes.
use Rattle.std.proofs.Common.{◌≡◌, ℕ, zero, suc, ◌+◌, ◌<◌, Bool, true, List, [], ◌∷◌, ◌++◌, length, map, take, drop, get_or, refl, ap, sym, ◌∙◌, subst, arith}
use Rattle.std.specs.Prelude.{All, slice_index_or}
use Rattle.std.specs.List.{enumerate_from, list_all, range_with_len, sum}
use Rattle.std.proofs.lemmas.Bool.{and_parts, and_from}
use Rattle.std.proofs.lemmas.List.{ext_get_or, get_or-map, get_or_default, length-map, length-drop, take-append-drop, take_at, drop_at}
use Rattle.std.proofs.lemmas.List.FromFn.{get_or-enumerate_from, get_or-map-range_with_len, length-enumerate_from, length-map-range_with_len}
use Rattle.mt_facts.proofs.Numbers.{sum_cons}
use Rattle.mt_types.specs.declared.value.Value.{Value}
use Rattle.mt_types.specs.declared.value.Value.TheVariants.{Null}
use Rattle.mt_table.specs.Rows.{Pointwise, RowFits}
use Rattle.mt_table.specs.declared.column.Column.{Column}
use Rattle.mt_defs.specs.Metadata.{no_column}
use Rattle.mt_defs.specs.Granules.{granule_rows}
use Rattle.mt_defs.specs.Rows.{Row, cell, column_values}
use Rattle.mt_defs.proofs.RowLemmas.{row_length}
use Rattle.mt_granules.specs.ColumnRows.{all_values, row_at, rows_of}
use Rattle.mt_granules.proofs.RowLemmas.{length-rows_of}

pub by_index : {X : Type 0} (xs : List X) (n : ℕ) (d : X) → length xs ≡ n → map (λ k. get_or xs k d) (range_with_len 0 n) ≡ xs
by_index xs n d long =
    ext_get_or d (map (λ k. get_or xs k d) (range_with_len 0 n)) xs (length-map-range_with_len (λ k. get_or xs k d) 0 n ∙ sym long)
    (λ i h. get_or-map-range_with_len (λ k. get_or xs k d) 0 n i i d (omega (arith, h, length-map-range_with_len (λ k. get_or xs k d) 0 n)) (omega arith))

pub numbered_all : {X : Type 0} (P : ℕ × X → Type 0) (xs : List X) (d : X) → ((k : ℕ) → k < length xs → P (k, get_or xs k d)) → All P (enumerate_from 0 xs)
numbered_all P xs d each = λ k e h.
    let inside : k < length xs = omega (arith, h, length-enumerate_from 0 xs) in
    subst P (sym (get_or-enumerate_from 0 xs k e inside ∙ ap (λ n. (n, get_or xs k e.1)) (let z : 0 + k ≡ k = omega arith in z) ∙ ap (λ x. (k, x)) (get_or_default xs k e.1 d inside))) (each k inside)

pub numbered_each : {X : Type 0} (P : ℕ × X → Type 0) (xs : List X) (d : X) (k : ℕ) → All P (enumerate_from 0 xs) → k < length xs → P (k, get_or xs k d)
numbered_each P xs d k all h =
    subst P (get_or-enumerate_from 0 xs k (0, d) h ∙ ap (λ n. (n, get_or xs k d)) (let z : 0 + k ≡ k = omega arith in z)) (all k (0, d) (omega (arith, h, length-enumerate_from 0 xs)))

pub pointwise_of : {A B : Type 0} (R : A → B → Type 0) (xs : List A) (ys : List B) → length xs ≡ length ys → ((k : ℕ) (a : A) (b : B) → k < length xs → R (get_or xs k a) (get_or ys k b)) → Pointwise R xs ys
pointwise_of R [] [] long each = tt
pointwise_of R [] (y ∷ ys) long each = absurd (omega (arith, long))
pointwise_of R (x ∷ xs) [] long each = absurd (omega (arith, long))
pointwise_of R (x ∷ xs) (y ∷ ys) long each = (each 0 x y (omega arith), pointwise_of R xs ys (omega (arith, long)) (λ k a b h. each (suc k) a b (omega (arith, h))))

-- ---- values that fit

pub list_all_more : {X : Type 0} (p : X → Bool) (xs ys : List X) → list_all p xs ≡ true → list_all p ys ≡ true → list_all p (xs ++ ys) ≡ true
list_all_more p [] ys e f = f
list_all_more p (x ∷ xs) ys e f = let both = and_parts (p x) (list_all p xs) e in and_from (p x) (list_all p (xs ++ ys)) both.0 (list_all_more p xs ys both.1 f)

-- ---- a column's values in granules

values_take : (i k : ℕ) (rows : List Row) → column_values i (take k rows) ≡ take k (column_values i rows)
values_take i zero rows = refl
values_take i (suc k) [] = refl
values_take i (suc k) (row ∷ rows) = ap (λ (l : List Value). cell row i ∷ l) (values_take i k rows)

values_drop : (i k : ℕ) (rows : List Row) → column_values i (drop k rows) ≡ drop k (column_values i rows)
values_drop i zero rows = refl
values_drop i (suc k) [] = refl
values_drop i (suc k) (row ∷ rows) = values_drop i k rows

-- the first granule's values, and those of the others
pub first_cut : (i count : ℕ) (rows : List Row) (here : List Value) (more : List (List Value)) → length here ≡ count → column_values i rows ≡ all_values (here ∷ more)
    → (column_values i (take count rows) ≡ here) × (column_values i (drop count rows) ≡ all_values more)
first_cut i count rows here more long e =
    (values_take i count rows ∙ ap (take count) e ∙ take_at here (all_values more) count long, values_drop i count rows ∙ ap (drop count) e ∙ drop_at here (all_values more) count long)

-- the granules' values together are the column's
pub cut_joined : (i : ℕ) (granules : List ℕ) (rows : List Row) → sum granules ≡ length rows → all_values (map (column_values i) (granule_rows granules rows)) ≡ column_values i rows
cut_joined i [] [] e = refl
cut_joined i [] (row ∷ rows) e = absurd (omega (arith, e))
cut_joined i (count ∷ granules) rows e =
    let both = sum_cons count granules in
    ap (λ (l : List Value). column_values i (take count rows) ++ l) (cut_joined i granules (drop count rows) (omega (arith, both, e, length-drop count rows)))
    ∙ ap (λ (l : List Value). l ++ column_values i (drop count rows)) (values_take i count rows) ∙ ap (λ (l : List Value). take count (column_values i rows) ++ l) (values_drop i count rows) ∙ take-append-drop count (column_values i rows)

-- ---- rows and columns

-- a column of the rows that are made of columns
pub column_of_rows : (count i : ℕ) (cols : List (List Value)) → i < length cols → length (get_or cols i []) ≡ count → column_values i (rows_of count cols) ≡ get_or cols i []
column_of_rows count i cols h long =
    ext_get_or Null (column_values i (rows_of count cols)) (get_or cols i []) (length-map (rows_of count cols) (λ row. cell row i) ∙ length-rows_of count cols ∙ sym long)
    (λ r inside.
    let within : r < count = omega (arith, inside, length-map (rows_of count cols) (λ row. cell row i), length-rows_of count cols) in
    get_or-map (λ (row : Row). cell row i) (rows_of count cols) r [] Null (omega (arith, within, length-rows_of count cols))
    ∙ ap (λ (row : Row). cell row i) (get_or-map-range_with_len (row_at cols) 0 count r r [] within (omega arith))
    ∙ get_or-map (λ (values : List Value). slice_index_or values r Null) cols i [] Null h)

-- rows that fit are made of their columns
pub rows_of_columns : (columns : List Column) (rows : List Row) (count : ℕ) → length rows ≡ count → All (RowFits columns) rows → rows_of count (map (λ (i, column). column_values i rows) (enumerate_from 0 columns)) ≡ rows
rows_of_columns columns rows count long fit =
    let cols : List (List Value) = map (λ (i, column). column_values i rows) (enumerate_from 0 columns) in
    ext_get_or [] (rows_of count cols) rows (length-rows_of count cols ∙ sym long)
    (λ r inside.
    let within : r < length rows = omega (arith, inside, length-rows_of count cols, long) in
    let row : Row = get_or rows r [] in
    let width : length row ≡ length columns = row_length columns row (fit r [] within) in
    get_or-map-range_with_len (row_at cols) 0 count r r [] (omega (arith, within, long)) (omega arith)
    ∙ ext_get_or Null (row_at cols r) row (length-map cols (λ values. slice_index_or values r Null) ∙ length-map (enumerate_from 0 columns) (λ (i, column). column_values i rows) ∙ length-enumerate_from 0 columns ∙ sym width)
    (λ i below.
    let there : i < length columns = omega (arith, below, length-map cols (λ (values : List Value). slice_index_or values r Null), length-map (enumerate_from 0 columns) (λ (p : ℕ × Column). column_values p.0 rows), length-enumerate_from 0 columns) in
    let numbered : get_or (enumerate_from 0 columns) i (0, no_column) ≡ (i, get_or columns i no_column) = get_or-enumerate_from 0 columns i (0, no_column) there ∙ ap (λ n. (n, get_or columns i no_column)) (let z : 0 + i ≡ i = omega arith in z) in
    get_or-map (λ (values : List Value). slice_index_or values r Null) cols i [] Null (omega (arith, there, length-map (enumerate_from 0 columns) (λ (p : ℕ × Column). column_values p.0 rows), length-enumerate_from 0 columns))
    ∙ ap (λ (values : List Value). slice_index_or values r Null) (get_or-map (λ (p : ℕ × Column). column_values p.0 rows) (enumerate_from 0 columns) i (0, no_column) [] (omega (arith, there, length-enumerate_from 0 columns)) ∙ ap (λ (p : ℕ × Column). column_values p.0 rows) numbered)
    ∙ get_or-map (λ (row : Row). cell row i) rows r [] Null within))
