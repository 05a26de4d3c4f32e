-- What every sentence of the grammar has: names that are names, and lists of at least one.
use Rattle.std.specs.Prelude.{Bool, ◌&&◌}
use Rattle.std.specs.List.{list_all, list_any}
use Rattle.mt_types.specs.Words.{is_name}
use Rattle.mt_element_syntax.specs.Formed.{has_one, has_one_given, is_formed_element}
use Rattle.mt_syntax.specs.declared.tree.TableText.{TableText}
use Rattle.mt_element_syntax.specs.Trees.{is_column_element}

-- the names are names, and there are a column, a sort key and no empty primary key
abbrev pub is_formed : TableText → Bool
is_formed text =
    is_name text.name
    && (list_all is_formed_element text.elements
    && (list_any is_column_element text.elements && (has_one_given text.primary && has_one text.order)))
