-- The rules that each table keeps, over its fields: docs/LANGUAGE.md, "Table text".
use Rattle.std.specs.Prelude.{ℕ, Bool, true, false, ◌&&◌, nat_eq, nat_le, nat_lt, List, length, map, Option, Some, None}
use Rattle.std.specs.List.{count_by, filter_map, list_all, list_any}
use Rattle.mt_types.specs.declared.ty.Agg.TheVariants.{Sum, Min, Max}
use Rattle.mt_table.specs.declared.column.Column.{Column}
use Rattle.mt_table.specs.declared.limits.TheConstants.{MAX_COLUMNS, MAX_GRANULARITY, MAX_GRANULE_BYTES, MAX_GRANULE_ROWS, MAX_KEY, MAX_PARTITION, MAX_PROJECTIONS, MAX_SET_ROWS, MAX_SKIPS}
use Rattle.mt_table.specs.declared.partition.PartExpr.{PartExpr}
use Rattle.mt_table.specs.declared.partition.PartExpr.TheVariants.{Plain, Month}
use Rattle.mt_table.specs.declared.projection.Aggregate.{Aggregate}
use Rattle.mt_table.specs.declared.projection.Aggregate.TheVariants.{Count, Of}
use Rattle.mt_table.specs.declared.projection.Projection.{Projection}
use Rattle.mt_table.specs.declared.projection.Projection.TheVariants.{Normal, Grouped}
use Rattle.mt_table.specs.declared.settings.Settings.{Settings}
use Rattle.mt_table.specs.declared.skip.Skip.{Skip}
use Rattle.mt_table.specs.declared.skip.SkipKind.{SkipKind}
use Rattle.mt_table.specs.declared.skip.SkipKind.TheVariants as kept
use Rattle.mt_types.specs.Numbers.{is_argument_type}
use Rattle.mt_table.specs.ColumnTypes.{is_column_type, is_date_type, is_integer_type, is_key_type, place_has}
use Rattle.mt_table.specs.Fields.{Fields}
use Rattle.mt_types.specs.Words.{is_name}
use Rattle.mt_table.specs.Names.{are_apart, names_differ, places_differ}

-- ---- columns

-- the name is a name, and the type one of a column
abbrev pub is_column : Column → Bool
is_column column = is_name column.name && is_column_type column.ty

abbrev pub names_of : List Column → List (List ℕ)
names_of = map (λ column. column.name)

-- from 1 to 256 columns, of different names
abbrev pub keeps_columns : List Column → Bool
keeps_columns columns =
    (nat_le 1 (length columns) && nat_le (length columns) MAX_COLUMNS)
    && (list_all is_column columns && names_differ (names_of columns))

-- ---- keys

-- from 1 to 16 different columns, of the types that a key may have
abbrev pub keeps_key : List Column → List ℕ → Bool
keeps_key columns places =
    (nat_le 1 (length places) && nat_le (length places) MAX_KEY)
    && (places_differ places && list_all (place_has is_key_type columns) places)

-- the primary key is some of the sort key, from its first column on
abbrev pub keeps_primary : List ℕ → ℕ → Bool
keeps_primary sort primary = nat_le 1 primary && nat_le primary (length sort)

-- ---- the partition key

-- the column that an expression stands for itself
abbrev pub plain_place : PartExpr → Option ℕ
plain_place (Plain place) = Some place
plain_place (Month place) = None

-- the column of which an expression is the month
abbrev pub month_place : PartExpr → Option ℕ
month_place (Plain place) = None
month_place (Month place) = Some place

-- a column is of the types of a key, and a month is of a Date
abbrev pub keeps_expression : List Column → PartExpr → Bool
keeps_expression columns (Plain place) = place_has is_key_type columns place
keeps_expression columns (Month place) = place_has is_date_type columns place

-- at most 4 different expressions
abbrev pub keeps_partition : List Column → List PartExpr → Bool
keeps_partition columns partition =
    nat_le (length partition) MAX_PARTITION
    && (places_differ (filter_map plain_place partition)
    && (places_differ (filter_map month_place partition) && list_all (keeps_expression columns) partition))

-- ---- skip indexes

-- a set holds at most 4,194,304 rows
abbrev pub keeps_kind : SkipKind → Bool
keeps_kind kept.Minmax = true
keeps_kind (kept.Set rows) = nat_le rows MAX_SET_ROWS

-- an index has a name, is over a column of the types of a key, and its granularity is from 1 to 1,048,576
abbrev pub keeps_skip : List Column → Skip → Bool
keeps_skip columns skip =
    is_name skip.name && (place_has is_key_type columns skip.column
    && (nat_le 1 skip.granularity && (nat_le skip.granularity MAX_GRANULARITY && keeps_kind skip.kind)))

abbrev pub skip_names : List Skip → List (List ℕ)
skip_names = map (λ skip. skip.name)

-- at most 16 indexes, of different names, and no column is named as the files of one
abbrev pub keeps_skips : List Column → List Skip → Bool
keeps_skips columns skips =
    nat_le (length skips) MAX_SKIPS
    && (list_all (keeps_skip columns) skips
    && (names_differ (skip_names skips) && are_apart (names_of columns) (skip_names skips)))

-- ---- projections

-- there is such a column
abbrev pub is_place : List Column → ℕ → Bool
is_place columns place = nat_lt place (length columns)

-- the place is one of these
abbrev pub is_one_of : List ℕ → ℕ → Bool
is_one_of places place = list_any (nat_eq place) places

-- different columns, among them a sort key
abbrev pub keeps_normal : List Column → List ℕ → List ℕ → Bool
keeps_normal columns selected sort =
    (places_differ selected && list_all (is_place columns) selected)
    && (list_all (is_one_of selected) sort && keeps_key columns sort)

-- the column of which an aggregate is the sum
abbrev pub sum_place : Aggregate → Option ℕ
sum_place (Of Sum place) = Some place
sum_place _ = None

-- the column of which an aggregate is the least value
abbrev pub min_place : Aggregate → Option ℕ
min_place (Of Min place) = Some place
min_place _ = None

-- the column of which an aggregate is the greatest value
abbrev pub max_place : Aggregate → Option ℕ
max_place (Of Max place) = Some place
max_place _ = None

-- a count of rows
abbrev pub is_count_aggregate : Aggregate → Bool
is_count_aggregate Count = true
is_count_aggregate _ = false

-- an aggregate stands once
abbrev pub aggregates_differ : List Aggregate → Bool
aggregates_differ aggregates =
    nat_le (count_by is_count_aggregate aggregates) 1
    && (places_differ (filter_map sum_place aggregates)
    && (places_differ (filter_map min_place aggregates) && places_differ (filter_map max_place aggregates)))

-- a sum is over an integer of at most 64 bits, the least and the greatest value over such an integer or a Date
abbrev pub keeps_aggregate : List Column → Aggregate → Bool
keeps_aggregate columns Count = true
keeps_aggregate columns (Of Sum place) = place_has is_integer_type columns place
keeps_aggregate columns (Of Min place) = place_has is_argument_type columns place
keeps_aggregate columns (Of Max place) = place_has is_argument_type columns place

-- a key, and from 1 to 16 different aggregates
abbrev pub keeps_grouped : List Column → List ℕ → List Aggregate → Bool
keeps_grouped columns keys aggregates =
    keeps_key columns keys
    && ((nat_le 1 (length aggregates) && nat_le (length aggregates) MAX_KEY)
    && (aggregates_differ aggregates && list_all (keeps_aggregate columns) aggregates))

-- a projection has a name and one of the two forms
abbrev pub keeps_projection : List Column → Projection → Bool
keeps_projection columns (Normal name selected sort) = is_name name && keeps_normal columns selected sort
keeps_projection columns (Grouped name keys aggregates) = is_name name && keeps_grouped columns keys aggregates

abbrev pub name_of_projection : Projection → List ℕ
name_of_projection (Normal name selected sort) = name
name_of_projection (Grouped name keys aggregates) = name

-- at most 8 projections, of different names
abbrev pub keeps_projections : List Column → List Projection → Bool
keeps_projections columns projections =
    nat_le (length projections) MAX_PROJECTIONS
    && (list_all (keeps_projection columns) projections && names_differ (map name_of_projection projections))

-- ---- settings

-- granules of 1 to 1,048,576 rows and 1 to 2^30 bytes
abbrev pub keeps_settings : Settings → Bool
keeps_settings settings =
    (nat_le 1 settings.granule_rows && nat_le settings.granule_rows MAX_GRANULE_ROWS)
    && (nat_le 1 settings.granule_bytes && nat_le settings.granule_bytes MAX_GRANULE_BYTES)

-- ---- all of it

-- the fields are those of a table
abbrev pub keeps_rules : Fields → Bool
keeps_rules table =
    is_name table.name
    && (keeps_columns table.columns
    && (keeps_key table.columns table.sort
    && (keeps_primary table.sort table.primary
    && (keeps_partition table.columns table.partition
    && (keeps_skips table.columns table.skips
    && (keeps_projections table.columns table.projections && keeps_settings table.settings))))))
