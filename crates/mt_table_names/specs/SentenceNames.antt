-- The names in a sentence, sorted by what they name.
use Rattle.std.specs.Prelude.{◌≡◌, List}
use Rattle.std.specs.List.{filter_map}
use Rattle.mt_phrases.specs.declared.selection.Selection.{Selection}
use Rattle.mt_element_syntax.specs.declared.tree.Element.{Element}
use Rattle.mt_syntax.specs.declared.tree.PartitionText.{PartitionText}
use Rattle.mt_table_names.specs.declared.sentence.ElementNames.{ElementNames}
use Rattle.mt_table_names.specs.declared.sentence.ItemNames.{ItemNames}
use Rattle.mt_table_names.specs.declared.sentence.PartitionNames.{PartitionNames}
use Rattle.mt_table_names.specs.Sentence.{column_element_names, index_names, item_column, max_column, min_column, month_name, plain_name, projection_element_names, sum_column}

-- the names are those of the elements
pub record AreOfElements (names : ElementNames) (elements : List Element) : Type 0 where
  pub columns : names.columns ≡ column_element_names elements
  pub indexes : names.indexes ≡ index_names elements
  pub projections : names.projections ≡ projection_element_names elements

-- the names are those of the expressions
pub record AreOfPartition (names : PartitionNames) (partition : List PartitionText) : Type 0 where
  pub plain : names.plain ≡ filter_map plain_name partition
  pub months : names.months ≡ filter_map month_name partition

-- the names are those of the items
pub record AreOfItems (names : ItemNames) (items : List Selection) : Type 0 where
  pub plain : names.plain ≡ filter_map item_column items
  pub sums : names.sums ≡ filter_map sum_column items
  pub mins : names.mins ≡ filter_map min_column items
  pub maxs : names.maxs ≡ filter_map max_column items
