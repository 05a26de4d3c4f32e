-- The rule on the names of columns, indexes and projections: docs/LANGUAGE.md, "Table text", TwoNames.
use Rattle.std.specs.Prelude.{ℕ, Bool, ◌&&◌, List}
use Rattle.mt_element_syntax.specs.declared.tree.Element.{Element}
use Rattle.mt_table.specs.Names.{are_apart, names_differ}
use Rattle.mt_table_names.specs.Sentence.{column_element_names, index_names, projection_element_names}

-- no two columns share a name, no two indexes and no two projections do, and no column is named `skp_idx_` and an index's name
abbrev pub are_own : (columns indexes projections : List (List ℕ)) → Bool
are_own columns indexes projections =
    (names_differ columns && names_differ indexes)
    && (names_differ projections && are_apart columns indexes)

-- the names of a table's elements are such names
abbrev pub has_own_names : List Element → Bool
has_own_names elements = are_own (column_element_names elements) (index_names elements) (projection_element_names elements)
