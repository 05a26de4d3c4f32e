-- The two forms that a projection may have: docs/LANGUAGE.md, "Table text".
use Rattle.std.specs.Prelude.{ℕ, Bool, true, false, not, ◌&&◌, nat_le, List, Option, Some, None}
use Rattle.std.specs.List.{count_by, filter_map, list_all, list_any}
use Rattle.mt_types.specs.declared.ty.Agg.{Agg}
use Rattle.mt_types.specs.declared.ty.Agg.TheVariants.{Sum, Min, Max}
use Rattle.mt_phrases.specs.declared.selection.Selection.{Selection}
use Rattle.mt_phrases.specs.declared.selection.Selection.TheVariants as selection
use Rattle.mt_phrases.specs.declared.selection.Selected.{Selected}
use Rattle.mt_phrases.specs.declared.selection.Selected.TheVariants.{All, Items}
use Rattle.mt_table.specs.declared.column.Column.{Column}
use Rattle.mt_types.specs.Numbers.{is_argument_type}
use Rattle.mt_table.specs.ColumnTypes.{is_integer_type, is_key_type, named_has}
use Rattle.mt_table.specs.Names.{are_among, names_differ}
use Rattle.mt_table_names.specs.Sentence.{is_aggregate_selection, is_count_selection, item_column, max_column, min_column, sum_column}

-- different names of columns of the types of a key
abbrev pub is_key : List Column → List (List ℕ) → Bool
is_key columns names = names_differ names && list_all (named_has is_key_type columns) names

-- ---- a normal projection

-- plain columns, each once, among them those of the sort key
abbrev pub selects_key : List Selection → List (List ℕ) → Bool
selects_key items sort =
    not (list_any is_aggregate_selection items)
    && (names_differ (filter_map item_column items) && are_among (filter_map item_column items) sort)

-- all columns, or some with those of the sort key
abbrev pub selects_for : Selected → List (List ℕ) → Bool
selects_for All sort = true
selects_for (Items items) sort = selects_key items sort

-- it selects columns and has a sort key among them
abbrev pub is_normal : List Column → Selected → List (List ℕ) → Bool
is_normal columns items sort = selects_for items sort && is_key columns sort

-- ---- an aggregate projection

-- what an aggregate may be over
abbrev pub takes : Agg → List Column → List ℕ → Bool
takes Sum columns name = named_has is_integer_type columns name
takes Min columns name = named_has is_argument_type columns name
takes Max columns name = named_has is_argument_type columns name

-- sum is over an integer of at most 64 bits, min and max over such an integer or a Date
abbrev pub is_selection_over : List Column → Selection → Bool
is_selection_over columns (selection.Of agg name) = takes agg columns name
is_selection_over columns _ = true

-- each aggregate stands once
abbrev pub selections_differ : List Selection → Bool
selections_differ items =
    nat_le (count_by is_count_selection items) 1
    && (names_differ (filter_map sum_column items)
    && (names_differ (filter_map min_column items) && names_differ (filter_map max_column items)))

-- the two are the same names, each once, in any order
abbrev pub are_same : List (List ℕ) → List (List ℕ) → Bool
are_same names others =
    (names_differ names && names_differ others) && (are_among others names && are_among names others)

-- it has keys, selects them, and selects aggregates beside them
abbrev pub is_grouped_projection : List Column → List Selection → List (List ℕ) → Bool
is_grouped_projection columns items keys =
    is_key columns keys
    && (are_same (filter_map item_column items) keys
    && (list_any is_aggregate_selection items && (selections_differ items && list_all (is_selection_over columns) items)))

-- ---- both

-- one of the two forms: ORDER BY and no GROUP BY, or GROUP BY, no ORDER BY and no *
abbrev pub is_projection : List Column → Selected → Option (List (List ℕ)) → Option (List (List ℕ)) → Bool
is_projection columns items None (Some sort) = is_normal columns items sort
is_projection columns (Items items) (Some keys) None = is_grouped_projection columns items keys
is_projection columns _ _ _ = false
