-- Rows of columns: at some indexes, and in the order of a key.
use Rattle.std.proofs.Common.{◌≡◌, ℕ, zero, suc, ◌+◌, ◌<◌, Bool, false, cond, List, [], ◌∷◌, length, get_or, map, refl, ap, ap₂, sym, ◌∙◌, arith}
use Rattle.std.specs.Borrow.{Bor}
use Rattle.std.specs.List.{All, range_with_len}
use Rattle.std.specs.Ordering.{is_gt}
use Rattle.std.specs.declared.cmp.Ordering.{Ordering}
use Rattle.std.proofs.lemmas.List.{get_or-map, length-map, ext_get_or}
use Rattle.std.proofs.lemmas.List.Elements.{All-head, All-tail}
use Rattle.std.proofs.lemmas.List.FromFn.{get_or-map-range_with_len, length-map-range_with_len}
use Rattle.mt_types.specs.declared.value.Value.{Value}
use Rattle.mt_types.specs.declared.value.Value.TheVariants.{Null}
use Rattle.mt_types.specs.Order.{values_cmp}
use Rattle.mt_defs.specs.Rows.{Row, cell, key_of, key_cmp}
use Rattle.mt_defs.specs.Sorting.{placed_by, sorted_by, sorted_rows}
use Rattle.mt_columns.specs.Nesting.{Columned}
use Rattle.mt_blocks.specs.Rows.{indexes, picked, row_in, rows_at, rows_in}
use Rattle.mt_blocks.specs.Sorting.{NeverFalls, index_cmp, key_at}
use Rattle.mt_sort.proofs.SortedLemmas.{map-sorted_by}
use Rattle.mt_blocks.proofs.SortedLemmas.{sorted_same}

-- ---- rows, one by one

pub length-rows : (columns : List (List Value)) (count : ℕ) → length (rows_in columns count) ≡ count
length-rows columns count = length-map-range_with_len (row_in columns) 0 count

pub row_at : (columns : List (List Value)) (count i : ℕ) (d : Row) → i < count → get_or (rows_in columns count) i d ≡ row_in columns i
row_at columns count i d h = let same : 0 + i ≡ i = omega arith in get_or-map-range_with_len (row_in columns) 0 count i i d h same

-- a row of gathered columns is a row of the columns
row_picked : (order : List ℕ) (i : ℕ) → i < length order → (columns : List (List Value)) → row_in (map (picked order) columns) i ≡ row_in columns (get_or order i 0)
row_picked order i h [] = refl
row_picked order i h (values ∷ columns) = ap₂ ◌∷◌ (get_or-map (λ j. get_or values j Null) order i 0 Null h) (row_picked order i h columns)

pub rows_picked : (order : List ℕ) (columns : List (List Value)) → rows_in (map (picked order) columns) (length order) ≡ map (row_in columns) order
rows_picked order columns =
    let gathered = map (picked order) columns in
    let many = length-rows gathered (length order) in
    ext_get_or [] (rows_in gathered (length order)) (map (row_in columns) order) (many ∙ sym (length-map order (row_in columns))) (λ i h.
    let there : i < length order = omega (arith, h, many) in
    row_at gathered (length order) i [] there ∙ row_picked order i there columns ∙ sym (get_or-map (row_in columns) order i 0 [] there))

-- rows at some indexes
pub rows_are_at : (columns : List (List Value)) (count : ℕ) (order : List ℕ) → All (λ i. i < count) order → rows_at order (rows_in columns count) ≡ map (row_in columns) order
rows_are_at columns count [] all = refl
rows_are_at columns count (i ∷ order) all = ap₂ ◌∷◌ (row_at columns count i [] (All-head (λ j. j < count) i order all)) (rows_are_at columns count order (All-tail (λ j. j < count) i order all))

-- ---- keys

-- a cell of a row stands in its column
cell_in : (a : ℕ) (columns : List (List Value)) (c : ℕ) → cell (row_in columns a) c ≡ get_or (get_or columns c []) a Null
cell_in a [] c = refl
cell_in a (values ∷ columns) zero = refl
cell_in a (values ∷ columns) (suc c) = cell_in a columns c

key_in : (a : ℕ) (columns : List (List Value)) (sort : List ℕ) → key_of sort (row_in columns a) ≡ map (λ (values : List Value). get_or values a Null) (map (λ c. get_or columns c []) sort)
key_in a columns [] = refl
key_in a columns (c ∷ sort) = ap₂ ◌∷◌ (cell_in a columns c) (key_in a columns sort)

key_seen : (a : ℕ) (keys : List (Bor Columned)) → key_at keys a ≡ map (λ (values : List Value). get_or values a Null) (map (λ (k : Bor Columned). k.now.values) keys)
key_seen a [] = refl
key_seen a (k ∷ keys) = ap (λ (vs : List Value). get_or k.now.values a Null ∷ vs) (key_seen a keys)

-- the rows in the order of a sort key are those of the indexes in the order of its columns
pub rows_sorted : (columns : List (List Value)) (count : ℕ) (sort : List ℕ) (keys : List (Bor Columned))
    → map (λ (k : Bor Columned). k.now.values) keys ≡ map (λ c. get_or columns c []) sort
    → map (row_in columns) (sorted_by (index_cmp keys) (indexes count)) ≡ sorted_rows sort (rows_in columns count)
rows_sorted columns count sort keys are =
    let key : (a : ℕ) → key_at keys a ≡ key_of sort (row_in columns a) = λ a. key_seen a keys ∙ ap (map (λ (values : List Value). get_or values a Null)) are ∙ sym (key_in a columns sort) in
    let agree : (a b : ℕ) → index_cmp keys a b ≡ key_cmp sort (row_in columns a) (row_in columns b) = λ a b. ap₂ values_cmp (key a) (key b) in
    ap (map (row_in columns)) (sorted_same (index_cmp keys) (λ a b. key_cmp sort (row_in columns a) (row_in columns b)) agree (indexes count))
    ∙ map-sorted_by (row_in columns) (key_cmp sort) (indexes count)

-- gathered in the order of the sort key's columns, the columns have the rows in the order of the sort key
pub gathered_rows : (columns : List (List Value)) (count : ℕ) (sort : List ℕ) (keys : List (Bor Columned)) (order : List ℕ)
    → map (λ (k : Bor Columned). k.now.values) keys ≡ map (λ c. get_or columns c []) sort
    → order ≡ sorted_by (index_cmp keys) (indexes count)
    → rows_in (map (picked order) columns) (length order) ≡ sorted_rows sort (rows_in columns count)
gathered_rows columns count sort keys order are is = rows_picked order columns ∙ ap (map (row_in columns)) is ∙ rows_sorted columns count sort keys are

-- ---- rows that are in order

module _ (R : ℕ → ℕ → Ordering) where
  range_sorted : (from n : ℕ) → ((i : ℕ) → i + 1 < from + n → is_gt (R i (i + 1)) ≡ false) → range_with_len from n ≡ sorted_by R (range_with_len from n)
  range_sorted from zero up = refl
  range_sorted from (suc zero) up = refl
  range_sorted from (suc (suc n)) up =
      let rest = range_with_len (from + 1) (suc n) in
      let next = range_sorted (from + 1) (suc n) (λ i h. up i (omega (arith, h))) in
      let tail = range_with_len (from + 1 + 1) n in
      ap (λ (b : Bool). cond b ((from + 1) ∷ placed_by R from tail) (from ∷ (from + 1) ∷ tail)) (sym (up from (omega arith))) ∙ ap (placed_by R from) next

  -- indexes of which none is above the next are sorted
  pub indexes_sorted : (count : ℕ) → NeverFalls R count → indexes count ≡ sorted_by R (indexes count)
  indexes_sorted count up = range_sorted 0 count (λ i h. up i (omega (arith, h)))
