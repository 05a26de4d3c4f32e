-- Stored rows of an aggregate projection, merged into the groups of a query.
use Rattle.std.specs.Prelude.{◌≡◌, ℕ, ◌&&◌, ◌||◌, if◌then◌else◌, List, [], ◌∷◌, ◌++◌, map, filter, Option, Some, None, unwrap_or}
use Rattle.std.specs.List.{list_any, IsDistinct}
use Rattle.std.specs.Map.{lookup, keys_of}
use Rattle.mt_types.specs.declared.value.AggState.{AggState}
use Rattle.mt_types.specs.declared.value.Value.{Value}
use Rattle.mt_table.specs.declared.projection.Aggregate.{Aggregate}
use Rattle.mt_defs.specs.Rows.{Row, key_of}
use Rattle.mt_defs.specs.Folds.{state_of, states_join}
use Rattle.mt_defs.specs.Projections.{is_same_key, stored_state}
use Rattle.mt_query.specs.declared.query.Query.{Query}
use Rattle.mt_fold.specs.Answer.{aggregates, is_empty, keeps}
use Rattle.mt_fold.specs.Gathered.{Group, folds_of}
use Rattle.mt_fold.specs.declared.partial.Partial.{Partial}
use Rattle.mt_stored.specs.Placed.{as_row}

-- ---- groups together

-- each state joined with the one beside it; one of another kind changes nothing
abbrev pub join_each : List AggState → List AggState → List AggState
join_each states [] = states
join_each [] (other ∷ others) = []
join_each (state ∷ states) (other ∷ others) = unwrap_or (states_join state other) state ∷ join_each states others

-- states joined with those of some groups, one group after another
abbrev pub join_all : List AggState → List Group → List AggState
join_all states [] = states
join_all states (group ∷ groups) = join_all (join_each states group.1) groups

-- the groups of a key
abbrev pub groups_of : (key : List Value) → List Group → List Group
groups_of key groups = filter (λ (group : Group). is_same_key key group.0) groups

-- the states of a key in some groups together, if one of them has it, or it is the key of no values without GROUP BY
abbrev pub merged_at : Query → List Group → (key : List Value) → Option (List AggState)
merged_at query groups key =
    if (is_empty query.keys && is_empty key) || list_any (λ (group : Group). is_same_key key group.0) groups
    then Some (join_all (folds_of (aggregates query.items) []) (groups_of key groups)) else None

-- each key of some groups once, with its states together, and no other key, in any order
pub record AreMerged (query : Query) (groups merged : List Group) : Type 0 where
  pub once : IsDistinct is_same_key (keys_of merged)
  pub each : (key : List Value) → lookup (is_same_key key) merged ≡ merged_at query groups key

-- ---- stored rows

-- the state of an aggregate that a stored row has, or the state of no rows where it has none
abbrev pub given_state : (keys : List ℕ) → List Aggregate → Row → Aggregate → AggState
given_state keys aggs stored aggregate = unwrap_or (stored_state keys aggs aggregate stored) (state_of aggregate [])

-- the group that a stored row gives a query: its values of the GROUP BY columns, and its states
abbrev pub stored_group : (keys : List ℕ) → List Aggregate → (width : ℕ) → Query → Row → Group
stored_group keys aggs width query stored =
    (key_of query.keys (as_row keys width stored), map (given_state keys aggs stored) (aggregates query.items))

-- the groups of the stored rows on which the query's condition is true, in their order
abbrev pub stored_groups : (keys : List ℕ) → List Aggregate → (width : ℕ) → Query → List Row → List Group
stored_groups keys aggs width query stored =
    map (stored_group keys aggs width query) (filter (λ row. keeps query.cond (as_row keys width row)) stored)

-- a partial answer has merged stored rows into what another one gathered
pub record Merges (keys : List ℕ) (aggs : List Aggregate) (width : ℕ) (query : Query) (before : Partial) (stored : List Row) (made : Partial) : Type 0 where
  pub rows : made.rows ≡ before.rows
  pub groups : AreMerged query (before.groups.entries ++ stored_groups keys aggs width query stored) made.groups.entries
