-- The rules of a query text behind its grammar, in the order in which they are judged: docs/LANGUAGE.md, "Queries".
use Rattle.std.specs.Prelude.{ℕ, Bool, true, false, not, ◌||◌, nat_eq, ◌==◌, List, length, map, Option, Some, option_map, Result, Ok, if◌then◌else◌}
use Rattle.std.specs.List.{list_all, list_any, range_with_len}
use Rattle.mt_types.specs.declared.ty.Agg.TheVariants.{Sum, Min, Max}
use Rattle.mt_types.specs.Steps.{◌>>=◌, ok_or, require}
use Rattle.mt_phrases.specs.declared.selection.Selected.{Selected}
use Rattle.mt_phrases.specs.declared.selection.Selected.TheVariants.{All, Items}
use Rattle.mt_phrases.specs.declared.selection.Selection.{Selection}
use Rattle.mt_phrases.specs.declared.selection.Selection.TheVariants as selection
use Rattle.mt_table.specs.declared.column.Column.{Column}
use Rattle.mt_types.specs.Numbers.{is_argument_type}
use Rattle.mt_table.specs.ColumnTypes.{is_integer_type, place_has}
use Rattle.mt_query_syntax.specs.declared.tree.QueryText.{QueryText}
use Rattle.mt_query.specs.declared.query.Item.{Item}
use Rattle.mt_query.specs.declared.query.Item.TheVariants.{Column as Plain, Count, Of}
use Rattle.mt_query.specs.declared.query.Query.{Query}
use Rattle.mt_query.specs.declared.why.QueryWhy.{QueryWhy}
use Rattle.mt_query.specs.declared.why.QueryWhy.TheVariants.{BadAggregate, BadLiteral, NoSuchColumn, NotGrouped}
use Rattle.mt_query.specs.Columns.{place_of}
use Rattle.mt_query.specs.Conditions.{given_cond, given_is_present}
use Rattle.mt_query.specs.Lists.{all_of}

-- ---- NoSuchColumn

-- an item, where its column is there
abbrev pub item_of : List Column → Selection → Option Item
item_of columns (selection.Column name) = option_map Plain (place_of columns name)
item_of columns selection.Count = Some Count
item_of columns (selection.Of agg name) = option_map (Of agg) (place_of columns name)

-- all columns for *, else the items, where each one's column is there
abbrev pub items_of : List Column → Selected → Option (List Item)
items_of columns All = Some (map Plain (range_with_len 0 (length columns)))
items_of columns (Items items) = all_of (item_of columns) items

-- ---- NotGrouped

-- an item is count, sum, min or max
abbrev pub is_aggregate : Item → Bool
is_aggregate (Plain place) = false
is_aggregate _ = true

-- rows are grouped: there is GROUP BY or an aggregate
abbrev pub has_groups : List Item → (keys : List ℕ) → Bool
has_groups items keys = not (length keys == 0) || list_any is_aggregate items

-- an item is an aggregate, or a column of GROUP BY
abbrev pub is_of_group : (keys : List ℕ) → Item → Bool
is_of_group keys (Plain place) = list_any (nat_eq place) keys
is_of_group keys _ = true

-- where rows are grouped, each plain item is in GROUP BY
abbrev pub are_grouped : List Item → (keys : List ℕ) → Bool
are_grouped items keys = if has_groups items keys then list_all (is_of_group keys) items else true

-- ---- BadAggregate

-- sum is over an integer of at most 64 bits, min and max over such an integer or a Date
abbrev pub is_over : List Column → Item → Bool
is_over columns (Of Sum place) = place_has is_integer_type columns place
is_over columns (Of Min place) = place_has is_argument_type columns place
is_over columns (Of Max place) = place_has is_argument_type columns place
is_over columns _ = true

-- ---- the query

-- the rules from NotGrouped on, and the query of these items and keys
unfoldable pub judged_items : List Column → QueryText → List Item → (keys : List ℕ) → Result Query QueryWhy
judged_items columns text items keys = do
  _ ← require (are_grouped items keys) NotGrouped
  cond ← ok_or BadLiteral (given_cond columns text.cond)
  _ ← require (list_all (is_over columns) items) BadAggregate
  Ok (record { items = items; cond = cond; keys = keys; limit = text.limit })

-- the query of a sentence over some columns, or the first rule that the sentence breaks
unfoldable pub judged_query : List Column → QueryText → Result Query QueryWhy
judged_query columns text = do
  items ← ok_or NoSuchColumn (items_of columns text.items)
  keys ← ok_or NoSuchColumn (all_of (place_of columns) text.group)
  _ ← require (given_is_present columns text.cond) NoSuchColumn
  judged_items columns text items keys
