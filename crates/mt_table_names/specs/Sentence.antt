-- The columns, indexes, projections and names of a sentence: docs/LANGUAGE.md, "Table text".
use Rattle.std.specs.Prelude.{ℕ, Bool, true, false, List, [], map, Option, Some, None}
use Rattle.std.specs.List.{filter_map, position_or_len}
use Rattle.std.specs.Option.{unwrap_or}
use Rattle.std.specs.Str.{bytes_eq}
use Rattle.mt_types.specs.declared.ty.Agg.TheVariants.{Sum, Min, Max}
use Rattle.mt_phrases.specs.declared.selection.Selection.{Selection}
use Rattle.mt_phrases.specs.declared.selection.Selection.TheVariants as selection
use Rattle.mt_element_syntax.specs.declared.tree.Element.{Element}
use Rattle.mt_element_syntax.specs.declared.tree.Element.TheVariants as element
use Rattle.mt_syntax.specs.declared.tree.PartitionText.{PartitionText}
use Rattle.mt_syntax.specs.declared.tree.PartitionText.TheVariants as part

-- ---- elements

-- the name of a column
abbrev pub column_name : Element → Option (List ℕ)
column_name (element.Column name ty codecs) = Some name
column_name _ = None

-- the name of an index
abbrev pub index_element_name : Element → Option (List ℕ)
index_element_name (element.Index name column kind granularity) = Some name
index_element_name _ = None

-- the name of a projection
abbrev pub projection_element_name : Element → Option (List ℕ)
projection_element_name (element.Projection name items group order) = Some name
projection_element_name _ = None

-- the names of the columns among the elements
abbrev pub column_element_names : List Element → List (List ℕ)
column_element_names = filter_map column_name

-- those of the indexes
abbrev pub index_names : List Element → List (List ℕ)
index_names = filter_map index_element_name

-- those of the projections
abbrev pub projection_element_names : List Element → List (List ℕ)
projection_element_names = filter_map projection_element_name

-- ---- the partition key

-- the column that an expression stands for itself
abbrev pub plain_name : PartitionText → Option (List ℕ)
plain_name (part.Plain name) = Some name
plain_name (part.Month name) = None

-- the column of which an expression is the month
abbrev pub month_name : PartitionText → Option (List ℕ)
month_name (part.Plain name) = None
month_name (part.Month name) = Some name

-- ---- what a projection selects

-- the column that an item is
abbrev pub item_column : Selection → Option (List ℕ)
item_column (selection.Column name) = Some name
item_column _ = None

-- the column of which an item is the sum
abbrev pub sum_column : Selection → Option (List ℕ)
sum_column (selection.Of Sum name) = Some name
sum_column _ = None

-- the column of which an item is the least value
abbrev pub min_column : Selection → Option (List ℕ)
min_column (selection.Of Min name) = Some name
min_column _ = None

-- the column of which an item is the greatest value
abbrev pub max_column : Selection → Option (List ℕ)
max_column (selection.Of Max name) = Some name
max_column _ = None

-- an item that counts rows
abbrev pub is_count_selection : Selection → Bool
is_count_selection selection.Count = true
is_count_selection _ = false

-- an aggregate
abbrev pub is_aggregate_selection : Selection → Bool
is_aggregate_selection (selection.Column name) = false
is_aggregate_selection _ = true

-- the names of a list that may be left out
abbrev pub names_or_none : Option (List (List ℕ)) → List (List ℕ)
names_or_none names = unwrap_or names []

-- ---- places

-- where a name stands in a list of different names, or the list's length
abbrev pub place_in : List (List ℕ) → List ℕ → ℕ
place_in names name = position_or_len (bytes_eq name) names

-- where each of several names stands
abbrev pub places_in : List (List ℕ) → List (List ℕ) → List ℕ
places_in names = map (place_in names)
