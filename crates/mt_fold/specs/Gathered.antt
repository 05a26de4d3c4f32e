-- What a partial answer has gathered: the result rows or the groups of the rows so far.
use Rattle.std.specs.Prelude.{◌≡◌, ℕ, Bool, true, false, ◌&&◌, ◌||◌, if◌then◌else◌, List, [], length, map, All, IsPermutation, Option, Some, None}
use Rattle.std.specs.List.{list_any, IsDistinct}
use Rattle.std.specs.Map.{lookup, keys_of}
use Rattle.mt_types.specs.declared.value.AggState.{AggState}
use Rattle.mt_types.specs.declared.value.Value.{Value}
use Rattle.mt_table.specs.declared.projection.Aggregate.{Aggregate}
use Rattle.mt_defs.specs.Rows.{Row, key_of}
use Rattle.mt_defs.specs.Folds.{fold_of}
use Rattle.mt_defs.specs.Projections.{is_same_key, with_key}
use Rattle.mt_query.specs.declared.query.Query.{Query}
use Rattle.mt_fold.specs.Answer.{aggregates, is_empty, is_grouped, kept_rows, plain_row}
use Rattle.mt_fold.specs.declared.partial.Partial.{Partial}

-- a key, and a state per aggregate of the query, in the query's order
abbrev pub Group : Type 0
Group = List Value × List AggState

-- the folds of some aggregates over some rows
abbrev pub folds_of : List Aggregate → List Row → List AggState
folds_of aggs rows = map (fold_of rows) aggs

-- a key has a group: some row has it, or it is the key of no values without GROUP BY
abbrev pub has_group : (keys : List ℕ) → (key : List Value) → List Row → Bool
has_group keys key rows = (is_empty keys && is_empty key) || list_any (λ row. is_same_key key (key_of keys row)) rows

-- the folds over the rows of a key, if it has a group
abbrev pub group_states : Query → List Row → (key : List Value) → Option (List AggState)
group_states query rows key =
    if has_group query.keys key rows then Some (folds_of (aggregates query.items) (with_key query.keys key rows)) else None

-- each group of the rows once, with its folds, and no other group, in any order
pub record AreGroups (query : Query) (rows : List Row) (groups : List Group) : Type 0 where
  pub once : IsDistinct is_same_key (keys_of groups)
  pub each : (key : List Value) → lookup (is_same_key key) groups ≡ group_states query rows key

-- with groups, their groups alone; without, their result rows alone, in any order
abbrev pub GathersBy : (grouped : Bool) → List Row → List Group → Query → List Row → Type 0
GathersBy true made groups query rows = (made ≡ []) × AreGroups query (kept_rows query rows) groups
GathersBy false made groups query rows = (groups ≡ []) × IsPermutation (map (plain_row query) (kept_rows query rows)) made

-- a partial answer gathers the rows
abbrev pub Gathers : Partial → Query → List Row → Type 0
Gathers partial query rows = GathersBy (is_grouped query) partial.rows partial.groups.entries query rows

-- a partial answer suits a query: each of its result rows has a value per item
abbrev pub Suits : Partial → Query → Type 0
Suits partial query = All (λ (row : Row). length row ≡ length query.items) partial.rows
