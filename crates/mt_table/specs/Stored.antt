-- What the folders of a table store: the base part, and each projection: docs/FORMAT.md, "Projections" (ClickHouse: ProjectionDescription).
use Rattle.std.specs.Prelude.{ℕ, ◌+◌, ◌==◌, if◌then◌else◌, List, [], ◌∷◌, ◌++◌, length, map, filter, codes, slice_index_or}
use Rattle.std.specs.List.{list_any, range_with_len}
use Rattle.mt_types.specs.declared.ty.Agg.{Agg}
use Rattle.mt_types.specs.declared.ty.Agg.TheVariants.{Sum, Min, Max}
use Rattle.mt_types.specs.declared.ty.Ty.TheVariants.{Str, CountState, State as StateOf}
use Rattle.mt_table.specs.declared.column.Column.{Column}
use Rattle.mt_table.specs.declared.definition.Table.{Table}
use Rattle.mt_table.specs.declared.definition.PartDef.{PartDef}
use Rattle.mt_table.specs.declared.partition.PartExpr.{PartExpr}
use Rattle.mt_table.specs.declared.partition.PartExpr.TheVariants.{Plain, Month}
use Rattle.mt_table.specs.declared.projection.Aggregate.{Aggregate}
use Rattle.mt_table.specs.declared.projection.Aggregate.TheVariants.{Count, Of}
use Rattle.mt_table.specs.declared.projection.Projection.{Projection}
use Rattle.mt_table.specs.declared.projection.Projection.TheVariants.{Normal, Grouped}

-- ---- columns by their places

-- what stands for a column that no definition has
abbrev pub no_column : Column
no_column = record { name = codes ""; ty = Str }

-- a column by its index; every index of a definition has one
abbrev pub column_at : List Column → ℕ → Column
column_at columns column_index = slice_index_or columns column_index no_column

-- ---- the base part

-- the column that a partition expression is over, by its index
abbrev pub expression_column : PartExpr → ℕ
expression_column (Plain i) = i
expression_column (Month i) = i

-- the columns that each part of a table has: those of its sort key, and those of its partition key
abbrev pub key_columns : Table → List ℕ
key_columns table = table.sort ++ map expression_column table.partition

-- what the table's own part stores
abbrev pub base_of : Table → PartDef
base_of table = record { columns = table.columns; must = key_columns table; sort = table.sort; primary = table.primary }

-- ---- projections

-- what stands for a projection that no table has
abbrev pub no_projection : Projection
no_projection = Normal (codes "") [] []

-- a projection by its place
abbrev pub projection_at : Table → ℕ → Projection
projection_at table place = slice_index_or table.projections place no_projection

-- the places below a number that are among some columns
abbrev pub columns_below : ℕ → List ℕ → List ℕ
columns_below count columns = filter (λ i. list_any (λ j. j == i) columns) (range_with_len 0 count)

-- the columns that a normal projection stores, in the table's order
abbrev pub stored_columns : Table → List ℕ → List ℕ
stored_columns table columns = columns_below (length table.columns) columns

-- where a column stands among some columns
abbrev pub index_in : List ℕ → ℕ → ℕ
index_in [] i = 0
index_in (j ∷ js) i = if j == i then 0 else index_in js i + 1

-- the name of an aggregate function
abbrev pub aggregate_word : Agg → List ℕ
aggregate_word Sum = codes "sum"
aggregate_word Min = codes "min"
aggregate_word Max = codes "max"

-- the column of an aggregate's states
abbrev pub state_column : Table → Aggregate → Column
state_column table Count = record { name = codes "count()"; ty = CountState }
state_column table (Of agg i) =
    record { name = aggregate_word agg ++ codes "(" ++ (column_at table.columns i).name ++ codes ")"; ty = StateOf agg (column_at table.columns i).ty }

-- what a projection stores: its columns in the table's order, or its keys and then a state per aggregate; its folder has all of them
abbrev pub inner_of : Table → Projection → PartDef
inner_of table (Normal name columns sort) =
    let stored = stored_columns table columns in
    let inner = map (column_at table.columns) stored in
    record { columns = inner; must = range_with_len 0 (length inner); sort = map (index_in stored) sort; primary = length sort }
inner_of table (Grouped name keys aggs) =
    let inner = map (column_at table.columns) keys ++ map (state_column table) aggs in
    record { columns = inner; must = range_with_len 0 (length inner); sort = range_with_len 0 (length keys); primary = length keys }
