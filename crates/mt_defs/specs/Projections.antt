-- Projections: what they store, and which stored rows stand for which rows, docs/FORMAT.md, "Projections" (ClickHouse: ProjectionDescription).
use Rattle.std.specs.Prelude.{◌≡◌, ℕ, ◌+◌, Bool, true, false, ◌&&◌, ◌==◌, if◌then◌else◌, List, [], ◌∷◌, ◌++◌, length, map, filter, take, codes, Option, Some, None, IsPermutation}
use Rattle.std.specs.List.{list_all, list_any}
use Rattle.std.specs.Ordering.{is_eq}
use Rattle.mt_types.specs.declared.ty.Agg.{Agg}
use Rattle.mt_types.specs.declared.ty.Agg.TheVariants.{Sum, Min, Max}
use Rattle.mt_types.specs.declared.value.AggState.{AggState}
use Rattle.mt_types.specs.declared.value.Value.{Value, out-Value}
use Rattle.mt_types.specs.declared.value.Value.TheOpen.{Value-F}
use Rattle.mt_types.specs.Order.{values_cmp, state_cmp}
use Rattle.mt_table.specs.declared.definition.Table.{Table}
use Rattle.mt_table.specs.declared.projection.Aggregate.{Aggregate}
use Rattle.mt_table.specs.declared.projection.Aggregate.TheVariants.{Count, Of}
use Rattle.mt_table.specs.declared.projection.Projection.{Projection}
use Rattle.mt_table.specs.declared.projection.Projection.TheVariants.{Normal, Grouped}
use Rattle.mt_defs.specs.Rows.{Row, cell, key_of}
pub use Rattle.mt_table.specs.Stored.{base_of, stored_columns, index_in, aggregate_word, state_column, inner_of}
use Rattle.mt_defs.specs.Folds.{fold_of, merge_of}
use Rattle.mt_defs.specs.Sorting.{is_reordering}

-- ---- where it is stored

-- the name of a projection
abbrev pub projection_name : Projection → List ℕ
projection_name (Normal name columns sort) = name
projection_name (Grouped name keys aggs) = name

-- the folder of a projection, below the part
abbrev pub projection_prefix : Projection → List ℕ
projection_prefix projection = projection_name projection ++ codes ".proj/"

-- ---- which stored rows stand for which rows

-- the keys are equal
abbrev pub is_same_key : List Value → List Value → Bool
is_same_key a b = is_eq (values_cmp a b)

-- the rows of a key
abbrev pub with_key : List ℕ → List Value → List Row → List Row
with_key keys key rows = filter (λ row. is_same_key key (key_of keys row)) rows

-- the functions are the same
abbrev pub is_same_agg : Agg → Agg → Bool
is_same_agg Sum Sum = true
is_same_agg Min Min = true
is_same_agg Max Max = true
is_same_agg _ _ = false

-- the aggregates are the same
abbrev pub is_same_aggregate : Aggregate → Aggregate → Bool
is_same_aggregate Count Count = true
is_same_aggregate (Of f i) (Of g j) = is_same_agg f g && (i == j)
is_same_aggregate _ _ = false

-- where an aggregate stands among the projection's
abbrev pub aggregate_index : List Aggregate → Aggregate → ℕ
aggregate_index [] aggregate = 0
aggregate_index (a ∷ aggs) aggregate = if is_same_aggregate a aggregate then 0 else aggregate_index aggs aggregate + 1

-- the key of a stored row
abbrev pub stored_key : List ℕ → Row → List Value
stored_key keys row = take (length keys) row

-- the state of a value that is one
abbrev pub state_of_value : Value-F Value → Option AggState
state_of_value (Value-F.State state) = Some state
state_of_value _ = None

-- the state of an aggregate in a stored row
abbrev pub stored_state : List ℕ → List Aggregate → Aggregate → Row → Option AggState
stored_state keys aggs aggregate row = state_of_value (out-Value (cell row (length keys + aggregate_index aggs aggregate)))

-- the stored rows of a key
abbrev pub stored_with_key : List ℕ → List Value → List Row → List Row
stored_with_key keys key stored = filter (λ row. is_same_key key (stored_key keys row)) stored

-- one of the rows has the key
abbrev pub has_key : List ℕ → List Value → List Row → Bool
has_key keys key rows = list_any (λ row. is_same_key key (key_of keys row)) rows

-- one of the stored rows has the key
abbrev pub has_stored_key : List ℕ → List Value → List Row → Bool
has_stored_key keys key stored = list_any (λ row. is_same_key key (stored_key keys row)) stored

-- the stored states of an aggregate and a key together
abbrev pub merged_state : List ℕ → List Aggregate → List Row → List Value → Aggregate → Option AggState
merged_state keys aggs stored key aggregate = merge_of aggregate (map (stored_state keys aggs aggregate) (stored_with_key keys key stored))

-- the stored rows have the keys of the rows, and for each key the merge of its states is the fold over its rows
pub record FoldsRows (keys : List ℕ) (aggs : List Aggregate) (rows stored : List Row) : Type 0 where
  pub same_keys : (key : List Value) → has_stored_key keys key stored ≡ has_key keys key rows
  pub folds : (key : List Value) (aggregate : Aggregate) → list_any (λ a. is_same_aggregate a aggregate) aggs ≡ true
      → merged_state keys aggs stored key aggregate ≡ Some (fold_of (with_key keys key rows) aggregate)

-- the stored rows of a projection stand for these rows
abbrev pub IsProjectionOf : Table → Projection → List Row → List Row → Type 0
IsProjectionOf table (Normal name columns sort) rows stored = IsPermutation (map (key_of (stored_columns table columns)) rows) stored
IsProjectionOf table (Grouped name keys aggs) rows stored = FoldsRows keys aggs rows stored

-- ---- the test of it

-- the merge of some states is this state
abbrev pub is_state : AggState → Option AggState → Bool
is_state state None = false
is_state state (Some merged) = is_eq (state_cmp merged state)

-- the rows and the stored rows have the key, and the merges of its states are the folds over its rows
abbrev pub folds_key : List ℕ → List Aggregate → List Row → List Row → List Value → Bool
folds_key keys aggs rows stored key =
    has_key keys key rows && has_stored_key keys key stored && list_all (λ aggregate. is_state (fold_of (with_key keys key rows) aggregate) (merged_state keys aggs stored key aggregate)) aggs

-- so it is for each key of the rows and of the stored rows
abbrev pub folds_rows : List ℕ → List Aggregate → List Row → List Row → Bool
folds_rows keys aggs rows stored = list_all (folds_key keys aggs rows stored) (map (key_of keys) rows ++ map (stored_key keys) stored)

-- the test that the stored rows of a projection stand for these rows
abbrev pub is_projection_of : Table → Projection → List Row → List Row → Bool
is_projection_of table (Normal name columns sort) rows stored = is_reordering (map (key_of (stored_columns table columns)) rows) stored
is_projection_of table (Grouped name keys aggs) rows stored = folds_rows keys aggs rows stored
