-- Blocks of columns.
use Rattle.std.proofs.Common.{◌≡◌, ℕ, ◌+◌, ◌<◌, List, [], ◌∷◌, ◌++◌, length, get_or, map, take, ap, ap₂, sym, ◌∙◌, subst, arith}
use Rattle.std.specs.Borrow.{Bor}
use Rattle.std.specs.List.{All}
use Rattle.std.proofs.lemmas.List.{get_or-map, length-map, map_push, take_more}
use Rattle.std.proofs.lemmas.List.Elements.{All-nil, All-cons, All-weaker}
use Rattle.mt_types.specs.declared.value.Value.{Value}
use Rattle.mt_types.specs.declared.value.Value.TheVariants.{Null}
use Rattle.mt_defs.specs.Rows.{Row}
use Rattle.mt_defs.specs.Sorting.{sorted_by, sorted_rows}
use Rattle.mt_columns.specs.Nesting.{Columned}
use Rattle.mt_blocks.specs.Rows.{HaveRows, columns_in, indexes, picked, row_in, rows_at, rows_in}
use Rattle.mt_blocks.specs.Sorting.{NeverFalls, index_cmp}
use Rattle.mt_blocks.proofs.RowLemmas.{indexes_sorted, length-rows, rows_are_at, rows_picked, rows_sorted}

-- a column's values
pub column_at : (columns : List Columned) (column : ℕ) (d : Columned) → column < length columns → get_or (columns_in columns) column [] ≡ (get_or columns column d).values
column_at columns column d h = get_or-map (λ (c : Columned). c.values) columns column d [] h

-- gathered columns have as many values as there are indexes
pub have_gathered : (columns : List Columned) (values : List (List Value)) (order : List ℕ) → columns_in columns ≡ map (picked order) values → HaveRows (length order) columns
have_gathered [] values order is = All-nil (λ c. length c.values ≡ length order)
have_gathered (c ∷ columns) [] order is = cc
have_gathered (c ∷ columns) (v ∷ values) order is =
    let first : c.values ≡ picked order v = cc in
    let others : columns_in columns ≡ map (picked order) values = cc in
    All-cons (λ c. length c.values ≡ length order) c columns (ap (λ (vs : List Value). length vs) first ∙ length-map order (λ i. get_or v i Null)) (have_gathered columns values order others)

-- one more column gathered
pub columns_more : (columns now new : List Columned) (order : List ℕ) (i : ℕ) (c g : Columned) → i < length columns → c ≡ get_or columns i c → columns_in now ≡ map (picked order) (columns_in (take i columns)) → new ≡ now ++ g ∷ []
    → g.values ≡ picked order c.values → columns_in new ≡ map (picked order) (columns_in (take (i + 1) columns))
columns_more columns now new order i c g h is was step made =
    ap columns_in step ∙ map_push (λ (k : Columned). k.values) now g
    ∙ ap₂ (λ (cs : List (List Value)) (vs : List Value). cs ++ vs ∷ []) was (made ∙ ap (λ (k : Columned). picked order k.values) is)
    ∙ sym (map_push (picked order) (columns_in (take i columns)) (get_or columns i c).values)
    ∙ ap (map (picked order)) (sym (map_push (λ (k : Columned). k.values) (take i columns) (get_or columns i c)))
    ∙ ap (λ (ks : List Columned). map (picked order) (columns_in ks)) (sym (take_more columns i c h))

-- rows as they are seen
module _ (columns : List Columned) (count : ℕ) (rows : List Row) (view : rows_in (columns_in columns) count ≡ rows) where
  pub count_is : count ≡ length rows
  count_is = sym (length-rows (columns_in columns) count) ∙ ap (λ (rs : List Row). length rs) view

  pub all_below : (order : List ℕ) → All (λ i. i < length rows) order → All (λ i. i < count) order
  all_below order all = All-weaker (λ i. i < length rows) (λ i. i < count) (λ i (p : i < length rows). (let q : i < count = omega (arith, p, count_is) in q)) order all

  pub gathered_at : (gathered : List Columned) (order : List ℕ) → All (λ i. i < length rows) order → columns_in gathered ≡ map (picked order) (columns_in columns) → rows_in (columns_in gathered) (length order) ≡ rows_at order rows
  gathered_at gathered order all made =
      ap (λ (cs : List (List Value)). rows_in cs (length order)) made ∙ rows_picked order (columns_in columns)
      ∙ sym (rows_are_at (columns_in columns) count order (all_below order all)) ∙ ap (rows_at order) view

  pub have_rows : HaveRows count columns → HaveRows (length rows) columns
  have_rows have = subst (λ (n : ℕ). HaveRows n columns) count_is have

  pub rows_again : rows_in (columns_in columns) (length rows) ≡ rows
  rows_again = ap (rows_in (columns_in columns)) (sym count_is) ∙ view

-- the order of rows by a key
module _ (columns : List (List Value)) (count : ℕ) (sort : List ℕ) (keys : List (Bor Columned)) (are : map (λ (k : Bor Columned). k.now.values) keys ≡ map (λ c. get_or columns c []) sort) where
  pub in_order : NeverFalls (index_cmp keys) count → rows_in columns count ≡ sorted_rows sort (rows_in columns count)
  in_order up = ap (map (row_in columns)) (indexes_sorted (index_cmp keys) count up) ∙ rows_sorted columns count sort keys are

  pub ordered : (order : List ℕ) → order ≡ sorted_by (index_cmp keys) (indexes count) → All (λ i. i < count) order
      → All (λ i. i < length (rows_in columns count)) order × (rows_at order (rows_in columns count) ≡ sorted_rows sort (rows_in columns count))
  ordered order is all = (
    All-weaker (λ i. i < count) (λ i. i < length (rows_in columns count)) (λ i (p : i < count). (let q : i < length (rows_in columns count) = omega (arith, p, length-rows columns count) in q)) order all,
    rows_are_at columns count order all ∙ ap (map (row_in columns)) is ∙ rows_sorted columns count sort keys are,
  )
