-- The answer of a query over rows: docs/LANGUAGE.md, "Answers" (ClickHouse: SELECT). There are no granules, marks, ranges
-- or projections in it.
use Rattle.std.specs.Prelude.{ℕ, Bool, true, false, not, ◌||◌, if◌then◌else◌, List, [], ◌∷◌, map, take, filter, codes, Option, Some, None, option_map, slice_get, unwrap_or}
use Rattle.std.specs.List.{flat_map}
use Rattle.mt_types.specs.declared.ty.Agg.{Agg}
use Rattle.mt_types.specs.declared.ty.Agg.TheVariants.{Sum, Min, Max}
use Rattle.mt_types.specs.declared.ty.Width.TheVariants.{W64}
use Rattle.mt_types.specs.declared.ty.Ty.{Ty}
use Rattle.mt_types.specs.declared.ty.Ty.TheVariants.{UInt, Int, Str}
use Rattle.mt_types.specs.declared.value.AggState.{AggState}
use Rattle.mt_types.specs.declared.value.Value.{Value}
use Rattle.mt_types.specs.declared.value.Value.TheVariants.{Num, Null}
use Rattle.mt_types.specs.Order.{values_cmp}
use Rattle.mt_table.specs.declared.column.Column.{Column}
use Rattle.mt_table.specs.declared.projection.Aggregate.{Aggregate}
use Rattle.mt_table.specs.declared.projection.Aggregate.TheVariants as aggregate
use Rattle.mt_table.specs.declared.definition.Table.{Table}
use Rattle.mt_table.specs.Stored.{index_in}
use Rattle.mt_defs.specs.Lists.{distinct_by}
use Rattle.mt_defs.specs.Rows.{Row, cell, key_of}
use Rattle.mt_defs.specs.Folds.{fold_of}
use Rattle.mt_defs.specs.Projections.{is_same_key, with_key}
use Rattle.mt_defs.specs.Sorting.{sorted_by}
use Rattle.mt_agg.specs.States.{finished, is_signed_argument}
use Rattle.mt_tsv.specs.Printing.{rows_text}
use Rattle.mt_query.specs.declared.cond.Cond.{Cond}
use Rattle.mt_query.specs.declared.query.Item.{Item}
use Rattle.mt_query.specs.declared.query.Item.TheVariants as item
use Rattle.mt_query.specs.declared.query.Query.{Query}
use Rattle.mt_query.specs.Truth.{Truth, truth_of}

-- ---- which rows

-- true, and neither false nor NULL
abbrev pub is_true : Truth → Bool
is_true None = false
is_true (Some b) = b

-- the row's condition is true, or there is none
abbrev pub keeps : Option Cond → Row → Bool
keeps None row = true
keeps (Some cond) row = is_true (truth_of cond row)

-- the rows that a query is over, in their order
abbrev pub kept_rows : Query → List Row → List Row
kept_rows query rows = filter (keeps query.cond) rows

-- ---- groups

-- the aggregate of an item, if it is one
abbrev pub item_aggregates : Item → List Aggregate
item_aggregates (item.Column i) = []
item_aggregates item.Count = aggregate.Count ∷ []
item_aggregates (item.Of agg i) = aggregate.Of agg i ∷ []

-- the aggregates of a query, in its order
abbrev pub aggregates : List Item → List Aggregate
aggregates items = flat_map item_aggregates items

abbrev pub is_empty : {X : Type 0} → List X → Bool
is_empty [] = true
is_empty (x ∷ xs) = false

-- there is a GROUP BY or an aggregate
abbrev pub is_grouped : Query → Bool
is_grouped query = not (is_empty query.keys) || not (is_empty (aggregates query.items))

-- the keys of the groups, each once: the rows' values of the GROUP BY columns, NULL equal to NULL; without GROUP BY the
-- one key of no values, also over no rows
abbrev pub group_keys : (keys : List ℕ) → List Row → List (List Value)
group_keys [] rows = [] ∷ []
group_keys (key ∷ keys) rows = distinct_by is_same_key (map (key_of (key ∷ keys)) rows)

-- ---- result rows

-- the type of a column, if the table has it
abbrev pub column_type : Table → ℕ → Option Ty
column_type table i = option_map (λ (column : Column). column.ty) (slice_get table.columns i)

-- the type of an aggregate's argument, if it has one
abbrev pub argument_type : Table → Aggregate → Option Ty
argument_type table aggregate.Count = None
argument_type table (aggregate.Of agg i) = column_type table i

-- the number of a state: 0, or 1970-01-01, for the least and the greatest of no rows
abbrev pub state_value : Table → Aggregate → AggState → Value
state_value table aggregate state = Num (finished (argument_type table aggregate) state)

-- an item of the group of a key over the rows of the key: a GROUP BY column of the key, or an aggregate
abbrev pub group_item : Table → (keys : List ℕ) → (key : List Value) → List Row → Item → Value
group_item table keys key rows (item.Column i) = cell key (index_in keys i)
group_item table keys key rows item.Count = state_value table aggregate.Count (fold_of rows aggregate.Count)
group_item table keys key rows (item.Of agg i) = state_value table (aggregate.Of agg i) (fold_of rows (aggregate.Of agg i))

-- the result row of a group
abbrev pub group_row : Table → Query → List Row → (key : List Value) → Row
group_row table query rows key = map (group_item table query.keys key (with_key query.keys key rows)) query.items

-- an item of a row, where there are no groups
abbrev pub plain_item : Row → Item → Value
plain_item row (item.Column i) = cell row i
plain_item row item.Count = Null
plain_item row (item.Of agg i) = Null

-- the result row of a row
abbrev pub plain_row : Query → Row → Row
plain_row query row = map (plain_item row) query.items

-- a result row for each group, or for each row where there are no groups
abbrev pub result_rows : Table → Query → List Row → List Row
result_rows table query rows =
    if is_grouped query then map (group_row table query rows) (group_keys query.keys rows) else map (plain_row query) rows

-- ---- order, LIMIT and lines

-- by all items ascending, from left to right
abbrev pub ordered : List Row → List Row
ordered rows = sorted_by values_cmp rows

-- the first rows, so many
abbrev pub limited : Option ℕ → List Row → List Row
limited None rows = rows
limited (Some limit) rows = take limit rows

-- the rows of the answer
abbrev pub answer_rows : Table → Query → List Row → List Row
answer_rows table query rows = limited query.limit (ordered (result_rows table query (kept_rows query rows)))

-- the type of a sum, a least or a greatest over an argument
abbrev pub result_type : Agg → (argument : Ty) → Ty
result_type Sum argument = if is_signed_argument (Some argument) then Int W64 else UInt W64
result_type Min argument = argument
result_type Max argument = argument

-- the type of an item's values
abbrev pub item_type : Table → Item → Ty
item_type table (item.Column i) = unwrap_or (column_type table i) Str
item_type table item.Count = UInt W64
item_type table (item.Of agg i) = result_type agg (unwrap_or (column_type table i) Str)

-- the columns of the answer; their names aren't printed
abbrev pub item_columns : Table → List Item → List Column
item_columns table items = map (λ item. record { name = codes ""; ty = item_type table item }) items

-- the text of a query's answer over rows
unfoldable pub answer_text : Table → Query → List Row → List ℕ
answer_text table query rows = rows_text (item_columns table query.items) (answer_rows table query rows)
