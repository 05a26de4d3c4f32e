-- The rule on the columns that a sentence names: docs/LANGUAGE.md, "Table text", NoSuchColumn.
use Rattle.std.specs.Prelude.{ℕ, Bool, true, ◌&&◌, List}
use Rattle.std.specs.List.{list_all}
use Rattle.mt_phrases.specs.declared.selection.Selected.{Selected}
use Rattle.mt_phrases.specs.declared.selection.Selected.TheVariants.{All, Items}
use Rattle.mt_phrases.specs.declared.selection.Selection.{Selection}
use Rattle.mt_phrases.specs.declared.selection.Selection.TheVariants as selection
use Rattle.mt_element_syntax.specs.declared.tree.Element.{Element}
use Rattle.mt_element_syntax.specs.declared.tree.Element.TheVariants as element
use Rattle.mt_syntax.specs.declared.tree.PartitionText.{PartitionText}
use Rattle.mt_syntax.specs.declared.tree.PartitionText.TheVariants as part
use Rattle.mt_syntax.specs.declared.tree.TableText.{TableText}
use Rattle.mt_table.specs.Names.{are_among, is_among}
use Rattle.mt_table_names.specs.Sentence.{names_or_none}

-- the item's column is there, if it names one
abbrev pub item_is_there : List (List ℕ) → Selection → Bool
item_is_there names (selection.Column name) = is_among names name
item_is_there names selection.Count = true
item_is_there names (selection.Of agg name) = is_among names name

-- so are those of all items
abbrev pub items_are_there : List (List ℕ) → Selected → Bool
items_are_there names All = true
items_are_there names (Items items) = list_all (item_is_there names) items

-- so are all that an index or a projection names
abbrev pub element_is_there : List (List ℕ) → Element → Bool
element_is_there names (element.Column name ty codecs) = true
element_is_there names (element.Index name column kind granularity) = is_among names column
element_is_there names (element.Projection name items group order) =
    items_are_there names items && (are_among names (names_or_none group) && are_among names (names_or_none order))

-- so is the column of an expression
abbrev pub expression_is_there : List (List ℕ) → PartitionText → Bool
expression_is_there names (part.Plain name) = is_among names name
expression_is_there names (part.Month name) = is_among names name

-- every named column is there
abbrev pub all_are_there : List (List ℕ) → TableText → Bool
all_are_there names text =
    list_all (element_is_there names) text.elements
    && (list_all (expression_is_there names) text.partition
    && (are_among names (names_or_none text.primary) && are_among names text.order))
