-- What a sentence names, by its place among the columns: docs/LANGUAGE.md, "Table text".
use Rattle.std.specs.Prelude.{ℕ, List, [], length, Option, Some, None}
use Rattle.std.specs.List.{filter_map, range_with_len}
use Rattle.mt_phrases.specs.declared.selection.Selected.{Selected}
use Rattle.mt_phrases.specs.declared.selection.Selected.TheVariants.{All, Items}
use Rattle.mt_phrases.specs.declared.selection.Selection.{Selection}
use Rattle.mt_phrases.specs.declared.selection.Selection.TheVariants as selection
use Rattle.mt_element_syntax.specs.declared.tree.Element.{Element}
use Rattle.mt_element_syntax.specs.declared.tree.Element.TheVariants as element
use Rattle.mt_element_syntax.specs.declared.tree.IndexKind.{IndexKind}
use Rattle.mt_element_syntax.specs.declared.tree.IndexKind.TheVariants.{Minmax, Set}
use Rattle.mt_syntax.specs.declared.tree.PartitionText.{PartitionText}
use Rattle.mt_syntax.specs.declared.tree.PartitionText.TheVariants as part
use Rattle.mt_table.specs.declared.partition.PartExpr.{PartExpr}
use Rattle.mt_table.specs.declared.partition.PartExpr.TheVariants.{Plain, Month}
use Rattle.mt_table.specs.declared.projection.Aggregate.{Aggregate}
use Rattle.mt_table.specs.declared.projection.Aggregate.TheVariants.{Count, Of}
use Rattle.mt_table.specs.declared.projection.Projection.{Projection}
use Rattle.mt_table.specs.declared.projection.Projection.TheVariants.{Normal, Grouped}
use Rattle.mt_table.specs.declared.skip.Skip.{Skip}
use Rattle.mt_table.specs.declared.skip.SkipKind.{SkipKind}
use Rattle.mt_table.specs.declared.skip.SkipKind.TheVariants as kept
use Rattle.mt_table_names.specs.Sentence.{item_column, names_or_none, place_in, places_in}

-- an expression of the partition key
abbrev pub expression_of : List (List ℕ) → PartitionText → PartExpr
expression_of names (part.Plain name) = Plain (place_in names name)
expression_of names (part.Month name) = Month (place_in names name)

-- what an index keeps
abbrev pub skip_kind_of : IndexKind → SkipKind
skip_kind_of Minmax = kept.Minmax
skip_kind_of (Set rows) = kept.Set rows

-- the index of an element, if it is one
abbrev pub skip_of : List (List ℕ) → Element → Option Skip
skip_of names (element.Index name column kind granularity) =
    Some (record { name = name; column = place_in names column; kind = skip_kind_of kind; granularity = granularity })
skip_of names _ = None

-- the aggregate of an item, if it is one
abbrev pub aggregate_of : List (List ℕ) → Selection → Option Aggregate
aggregate_of names (selection.Column name) = None
aggregate_of names selection.Count = Some Count
aggregate_of names (selection.Of agg name) = Some (Of agg (place_in names name))

-- the selected columns
abbrev pub selected_places : List (List ℕ) → Selected → List ℕ
selected_places names All = range_with_len 0 (length names)
selected_places names (Items items) = places_in names (filter_map item_column items)

-- the selected aggregates
abbrev pub selected_aggregates : List (List ℕ) → Selected → List Aggregate
selected_aggregates names All = []
selected_aggregates names (Items items) = filter_map (aggregate_of names) items

-- an aggregate projection where there is GROUP BY, else a normal one
abbrev pub projection_of : List (List ℕ) → List ℕ → Selected → Option (List (List ℕ)) → Option (List (List ℕ)) → Projection
projection_of names name items (Some keys) order = Grouped name (places_in names keys) (selected_aggregates names items)
projection_of names name items None order = Normal name (selected_places names items) (places_in names (names_or_none order))

-- the projection of an element, if it is one
abbrev pub projection_in : List (List ℕ) → Element → Option Projection
projection_in names (element.Projection name items group order) = Some (projection_of names name items group order)
projection_in names _ = None
