-- The partition's files: docs/FORMAT.md, "Partition" (ClickHouse: MergeTreePartition, IMergeTreeDataPart::MinMaxIndex).
use Rattle.std.specs.Prelude.{◌≡◌, ℕ, ◌+◌, ◌-◌, ◌*◌, ◌/◌, pos, nat_lt, Bool, true, ◌&&◌, ◌==◌, if◌then◌else◌, List, ◌++◌, length, map, take, codes, Some, None, All, Contains}
use Rattle.std.specs.List.{flat_map, list_all, list_any}
use Rattle.std.specs.Int.{w32, to_le_bytes}
use Rattle.std.specs.Ordering.{is_le}
use Rattle.std.specs.Str.{bytes_eq}
use Rattle.mt_types.specs.declared.ty.Ty.{Ty}
use Rattle.mt_types.specs.declared.value.Value.{Value, out-Value}
use Rattle.mt_types.specs.declared.value.Value.TheOpen.{Value-F}
use Rattle.mt_types.specs.Order.{value_cmp}
use Rattle.mt_types.specs.Items.{item_bytes}
use Rattle.mt_table.specs.declared.column.Column.{Column}
use Rattle.mt_table.specs.declared.definition.Table.{Table}
use Rattle.mt_table.specs.declared.partition.PartExpr.{PartExpr}
use Rattle.mt_table.specs.declared.partition.PartExpr.TheVariants.{Plain, Month}
use Rattle.mt_defs.specs.Folder.{Folder}
use Rattle.mt_defs.specs.Rows.{Row, cell, column_values}
use Rattle.mt_defs.specs.FileNames.{file_name}
pub use Rattle.mt_table.specs.Stored.{expression_column}
use Rattle.mt_defs.specs.Metadata.{column_at}

-- ---- partition values

-- Year times 100 plus month of a day since 1970-01-01. Days are counted from 0000-03-01, in eras of
-- 400 years, so that a leap day ends its year.
abbrev pub month_of : ℕ → ℕ
month_of day =
    let days = day + 719468 in
    let era = days / 146097 in
    let day_of_era = days - era * 146097 in
    let year_of_era = (day_of_era - day_of_era / 1460 + day_of_era / 36524 - day_of_era / 146096) / 365 in
    let day_of_year = day_of_era - (365 * year_of_era + year_of_era / 4 - year_of_era / 100) in
    let month_from_march = (5 * day_of_year + 2) / 153 in
    let month = if nat_lt month_from_march 10 then month_from_march + 3 else month_from_march - 9 in
    let year = year_of_era + era * 400 + (if nat_lt month 3 then 1 else 0) in
    year * 100 + month

-- the month of a value that is a day
abbrev pub month_at : Value-F Value → ℕ
month_at (Value-F.Num (pos day)) = month_of day
month_at _ = 0

-- the value of a partition expression in a row, as bytes
abbrev pub expression_bytes : List Column → Row → PartExpr → List ℕ
expression_bytes columns row (Plain i) = item_bytes (column_at columns i).ty (cell row i)
expression_bytes columns row (Month i) = to_le_bytes w32 (month_at (out-Value (cell row i)))

-- the values of all partition expressions in a row
abbrev pub partition_bytes : Table → Row → List ℕ
partition_bytes table row = flat_map (expression_bytes table.columns row) table.partition

-- all rows have the same partition value
abbrev pub HaveOnePartition : Table → List Row → Type 0
HaveOnePartition table rows = (a b : Row) → Contains rows a → Contains rows b → partition_bytes table a ≡ partition_bytes table b

-- ---- least and greatest values

-- the least of some values
pub record IsLeast (values : List Value) (value : Value) : Type 0 where
  pub among : Contains values value
  pub least : All (λ other. is_le (value_cmp value other) ≡ true) values

-- the greatest of some values
pub record IsGreatest (values : List Value) (value : Value) : Type 0 where
  pub among : Contains values value
  pub greatest : All (λ other. is_le (value_cmp other value) ≡ true) values

-- none of the values is below it
abbrev pub is_least : List Value → Value → Bool
is_least values value = list_all (λ other. is_le (value_cmp value other)) values

-- none of the values is above it
abbrev pub is_greatest : List Value → Value → Bool
is_greatest values value = list_all (λ other. is_le (value_cmp other value)) values

-- the bytes are the least of some values and then the greatest
abbrev pub IsMinmaxOf : Ty → List Value → List ℕ → Type 0
IsMinmaxOf ty values bytes =
    (least greatest : Value) × IsLeast values least × IsGreatest values greatest × (bytes ≡ item_bytes ty least ++ item_bytes ty greatest)

-- the test of it: a value that is least and one that is greatest have these bytes
abbrev pub is_minmax_of : Ty → List Value → List ℕ → Bool
is_minmax_of ty values bytes =
    list_any (λ least. is_least values least && list_any (λ greatest. is_greatest values greatest && bytes_eq bytes (item_bytes ty least ++ item_bytes ty greatest)) values) values

-- ---- the files

-- the file of the partition value
abbrev pub partition_name : List ℕ
partition_name = codes "partition.dat"

-- the file of a column's least and greatest value
abbrev pub minmax_name : Table → ℕ → List ℕ
minmax_name table column_index = codes "minmax_" ++ file_name (column_at table.columns column_index).name ++ codes ".idx"

-- the minmax file of a column
abbrev pub HasMinmax : Table → List Row → Folder → ℕ → Type 0
HasMinmax table rows folder column_index =
    (bytes : List ℕ) × (folder (minmax_name table column_index) ≡ Some bytes)
    × IsMinmaxOf (column_at table.columns column_index).ty (column_values column_index rows) bytes

-- partition.dat, which is there where the table has a partition key, and the minmax file of each of its columns
pub record HasPartition (table : Table) (rows : List Row) (folder : Folder) : Type 0 where
  pub values : folder partition_name ≡ (if length table.partition == 0 then None else Some (flat_map (partition_bytes table) (take 1 rows)))
  pub minmax : All (HasMinmax table rows folder) (map expression_column table.partition)
