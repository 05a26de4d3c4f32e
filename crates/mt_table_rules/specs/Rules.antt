-- The rules of a table text behind its grammar, one each, in the order in which they are judged: docs/LANGUAGE.md, "Table text".
use Rattle.std.specs.Prelude.{ℕ, Bool, true, false, not, ◌&&◌, nat_le, List, [], ◌∷◌, length, codes, Some}
use Rattle.std.specs.List.{count_by, filter_map, list_all}
use Rattle.std.specs.Option.{unwrap_or}
use Rattle.std.specs.Str.{bytes_eq}
use Rattle.mt_phrases.specs.declared.selection.Selected.{Selected}
use Rattle.mt_phrases.specs.declared.selection.Selected.TheVariants.{All, Items}
use Rattle.mt_element_syntax.specs.declared.tree.CodecText.{CodecText}
use Rattle.mt_element_syntax.specs.declared.tree.Element.{Element}
use Rattle.mt_element_syntax.specs.declared.tree.Element.TheVariants as element
use Rattle.mt_element_syntax.specs.declared.tree.IndexKind.{IndexKind}
use Rattle.mt_element_syntax.specs.declared.tree.IndexKind.TheVariants.{Minmax, Set}
use Rattle.mt_syntax.specs.declared.tree.PartitionText.{PartitionText}
use Rattle.mt_syntax.specs.declared.tree.PartitionText.TheVariants as part
use Rattle.mt_syntax.specs.declared.tree.TableText.{TableText}
use Rattle.mt_table.specs.declared.column.Column.{Column}
use Rattle.mt_table.specs.declared.limits.TheConstants.{MAX_COLUMNS, MAX_GRANULARITY, MAX_KEY, MAX_PARTITION, MAX_PROJECTIONS, MAX_SET_ROWS, MAX_SKIPS}
use Rattle.mt_table.specs.ColumnTypes.{is_date_type, is_key_type, named_has}
use Rattle.mt_table.specs.Names.{begins, names_differ}
use Rattle.mt_table_rules.specs.Projections.{is_key, is_projection}
use Rattle.mt_table_names.specs.Sentence.{column_element_names, index_names, is_aggregate_selection, month_name, names_or_none, plain_name, projection_element_names}

-- ---- BadKey

-- the columns of the primary key: those of the sort key where it isn't given
abbrev pub primary_names : TableText → List (List ℕ)
primary_names text = unwrap_or text.primary text.order

-- sort columns differ and are of the types of a key; the primary key is a prefix of the sort key
abbrev pub has_keys : List Column → TableText → Bool
has_keys columns text = is_key columns text.order && begins (primary_names text) text.order

-- ---- BadPartition

-- a column is of the types of a key, and toYYYYMM has a Date
abbrev pub is_expression : List Column → PartitionText → Bool
is_expression columns (part.Plain name) = named_has is_key_type columns name
is_expression columns (part.Month name) = named_has is_date_type columns name

-- the expressions differ and are over columns of such types
abbrev pub is_partition : List Column → List PartitionText → Bool
is_partition columns partition =
    names_differ (filter_map plain_name partition)
    && (names_differ (filter_map month_name partition) && list_all (is_expression columns) partition)

-- ---- BadSkip

-- `max_rows` is at most 4,194,304
abbrev pub is_kind : IndexKind → Bool
is_kind Minmax = true
is_kind (Set rows) = nat_le rows MAX_SET_ROWS

-- an index is over a column of the types of a key, and its granularity is from 1 to 1,048,576
abbrev pub is_index : List Column → Element → Bool
is_index columns (element.Index name column kind granularity) =
    named_has is_key_type columns column
    && (nat_le 1 granularity && (nat_le granularity MAX_GRANULARITY && is_kind kind))
is_index columns _ = true

-- ---- BadProjection

-- a projection has one of the two forms
abbrev pub has_form : List Column → Element → Bool
has_form columns (element.Projection name items group order) = is_projection columns items group order
has_form columns _ = true

-- ---- Codec

-- the one word NONE
abbrev pub are_none : List CodecText → Bool
are_none (codec ∷ []) = bytes_eq codec.word (codes "NONE") && not codec.has_number
are_none _ = false

-- a column has no codec but NONE
abbrev pub is_uncompressed : Element → Bool
is_uncompressed (element.Column name ty (Some codecs)) = are_none codecs
is_uncompressed _ = true

-- ---- TooMany

-- a key, GROUP BY or ORDER BY names at most 16 columns
abbrev pub is_short : List (List ℕ) → Bool
is_short names = nat_le (length names) MAX_KEY

-- at most 16 aggregates
abbrev pub has_few_aggregates : Selected → Bool
has_few_aggregates All = true
has_few_aggregates (Items items) = nat_le (count_by is_aggregate_selection items) MAX_KEY

-- a projection has short keys and few aggregates
abbrev pub is_small_projection : Element → Bool
is_small_projection (element.Projection name items group order) =
    has_few_aggregates items && (is_short (names_or_none group) && is_short (names_or_none order))
is_small_projection _ = true

-- at most 256 columns, 16 indexes, 8 projections, 4 partition expressions, and so many names in keys
abbrev pub are_few : TableText → Bool
are_few text =
    nat_le (length (column_element_names text.elements)) MAX_COLUMNS
    && (nat_le (length (index_names text.elements)) MAX_SKIPS
    && (nat_le (length (projection_element_names text.elements)) MAX_PROJECTIONS
    && (list_all is_small_projection text.elements && (is_short text.order && nat_le (length text.partition) MAX_PARTITION))))
