-- How the code folds and prints groups: one row more in each state, and a result row from states.
use Rattle.std.specs.Prelude.{ℕ, List, [], ◌∷◌, Option, Some, None}
use Rattle.mt_types.specs.declared.value.AggState.{AggState}
use Rattle.mt_types.specs.declared.value.Value.{Value}
use Rattle.mt_types.specs.declared.value.Value.TheVariants.{Null}
use Rattle.mt_table.specs.declared.projection.Aggregate.{Aggregate}
use Rattle.mt_table.specs.declared.projection.Aggregate.TheVariants as aggregate
use Rattle.mt_table.specs.declared.definition.Table.{Table}
use Rattle.mt_table.specs.Stored.{index_in}
use Rattle.mt_defs.specs.Rows.{Row, cell}
use Rattle.mt_defs.specs.Folds.{number_taken}
use Rattle.mt_agg.specs.States.{state_with}
use Rattle.mt_query.specs.declared.query.Item.{Item}
use Rattle.mt_query.specs.declared.query.Item.TheVariants as item
use Rattle.mt_fold.specs.Answer.{state_value}

-- what there is, as a list
abbrev pub option_list : {X : Type 0} → Option X → List X
option_list None = []
option_list (Some x) = x ∷ []

-- the item of an aggregate
abbrev pub aggregate_item : Aggregate → Item
aggregate_item aggregate.Count = item.Count
aggregate_item (aggregate.Of agg i) = item.Of agg i

-- each state with one row's number more
abbrev pub each_with : List Aggregate → Row → List AggState → List AggState
each_with [] row states = states
each_with (agg ∷ aggs) row [] = []
each_with (agg ∷ aggs) row (state ∷ states) = state_with state (number_taken agg row) ∷ each_with aggs row states

-- the values of a group's items from its key and its states; NULL where there are too few states
abbrev pub row_of_states : Table → (keys : List ℕ) → (key : List Value) → List Item → List AggState → Row
row_of_states table keys key [] states = []
row_of_states table keys key (item.Column i ∷ items) states = cell key (index_in keys i) ∷ row_of_states table keys key items states
row_of_states table keys key (item.Count ∷ items) [] = Null ∷ row_of_states table keys key items []
row_of_states table keys key (item.Count ∷ items) (state ∷ states) = state_value table aggregate.Count state ∷ row_of_states table keys key items states
row_of_states table keys key (item.Of agg i ∷ items) [] = Null ∷ row_of_states table keys key items []
row_of_states table keys key (item.Of agg i ∷ items) (state ∷ states) = state_value table (aggregate.Of agg i) state ∷ row_of_states table keys key items states
