-- Runs: the rows of one key, in rows that are in the order of their keys.
use Rattle.std.specs.Prelude.{◌≡◌, ℕ, ◌+◌, List, [], ◌∷◌, map, take, true, Some, if◌then◌else◌, codes, IsSorted}
use Rattle.std.specs.List.{list_any}
use Rattle.mt_types.specs.declared.value.Value.{Value}
use Rattle.mt_types.specs.Order.{values_cmp}
use Rattle.mt_table.specs.declared.projection.Aggregate.{Aggregate}
use Rattle.mt_table.specs.declared.projection.Projection.TheVariants.{Grouped}
use Rattle.mt_defs.specs.Lists.{distinct_by}
use Rattle.mt_defs.specs.Rows.{Row, key_of}
use Rattle.mt_defs.specs.Folds.{fold_of, merge_of}
use Rattle.mt_defs.specs.Projections.{is_same_key, is_same_aggregate, stored_key, stored_state}
use Rattle.mt_defs.specs.Writer.{folded_row}

-- no row's key is below that of the row before it
abbrev pub IsInOrder : (Row → List Value) → List Row → Type 0
IsInOrder key rows = IsSorted (λ a b. values_cmp (key a) (key b)) rows

-- how many rows at the front have the key of a row
abbrev pub alike_at_front : (Row → List Value) → Row → List Row → ℕ
alike_at_front key first [] = 0
alike_at_front key first (row ∷ rows) = if is_same_key (key first) (key row) then alike_at_front key first rows + 1 else 0

-- how many rows at the front have the key of the first
abbrev pub run_length : (Row → List Value) → List Row → ℕ
run_length key [] = 0
run_length key (row ∷ rows) = alike_at_front key row rows + 1

-- the rows at the front that have the key of the first
abbrev pub run_of_key : (Row → List Value) → List Row → List Row
run_of_key key rows = take (run_length key rows) rows

-- a row for each key, where it first appears: the key, and the states over its rows
abbrev pub rows_by_key : List ℕ → List Aggregate → List Row → List Row
rows_by_key keys aggs rows = map (folded_row (Grouped (codes "") keys aggs) rows) (distinct_by is_same_key (map (key_of keys) rows))

-- the first of the stored rows has the key of the first row
abbrev pub HaveOneKey : List ℕ → List Row → List Row → Type 0
HaveOneKey keys (row ∷ rows) (part ∷ stored) = key_of keys row ≡ stored_key keys part
HaveOneKey keys _ _ = ⊥

-- for each of some aggregates the stored states merge to the fold over the rows
abbrev pub MergeToFolds : List Aggregate → List ℕ → List Aggregate → List Row → List Row → Type 0
MergeToFolds some keys aggs rows stored =
    (aggregate : Aggregate) → list_any (λ a. is_same_aggregate a aggregate) some ≡ true
    → merge_of aggregate (map (stored_state keys aggs aggregate) stored) ≡ Some (fold_of rows aggregate)

-- stored rows of one key stand for rows of one key
pub record RunStands (keys : List ℕ) (aggs : List Aggregate) (rows stored : List Row) : Type 0 where
  pub one_key : HaveOneKey keys rows stored
  pub merged : MergeToFolds aggs keys aggs rows stored
