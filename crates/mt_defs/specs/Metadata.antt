-- columns.txt and count.txt: docs/FORMAT.md, "Metadata" (ClickHouse: NamesAndTypesList::writeText).
use Rattle.std.specs.Prelude.{◌≡◌, ℕ, ◌<◌, Bool, false, ◌&&◌, List, ◌++◌, length, map, codes, Some, IsTrue}
use Rattle.std.specs.List.{flat_map, list_all}
use Rattle.std.specs.Fmt.{decimal}
use Rattle.mt_types.specs.Defaults.{default_of}
use Rattle.mt_types.specs.Names.{type_name}
use Rattle.mt_table.specs.declared.column.Column.{Column}
use Rattle.mt_table.specs.declared.definition.PartDef.{PartDef}
use Rattle.mt_table.specs.Kept.{is_one_of, is_place}
use Rattle.mt_table.specs.Names.{places_differ}
pub use Rattle.mt_table.specs.Stored.{no_column, column_at}
use Rattle.mt_defs.specs.Folder.{Folder}
use Rattle.mt_defs.specs.Rows.{Row, cell}

-- the file that lists the columns
abbrev pub columns_name : List ℕ
columns_name = codes "columns.txt"

-- the file that counts the rows
abbrev pub count_name : List ℕ
count_name = codes "count.txt"

-- the line of a column: its name in backquotes, and its type
abbrev pub column_line : Column → List ℕ
column_line column = codes "`" ++ column.name ++ codes "` " ++ type_name column.ty ++ codes "\n"

-- columns.txt: the number of columns, and then a line for each
abbrev pub columns_text : List Column → List ℕ
columns_text columns = codes "columns format version: 1\n" ++ decimal (length columns) ++ codes " columns:\n" ++ flat_map column_line columns

-- a folder may list these of the columns, by their places: no column twice, and each that it must list
abbrev pub may_list : List Column → List ℕ → List ℕ → Bool
may_list columns must order = list_all (is_place columns) order && (places_differ order && list_all (is_one_of order) must)

-- a row has the default of its type in each column that isn't listed
abbrev pub HasDefaults : List Column → List ℕ → Row → Type 0
HasDefaults columns order row = (i : ℕ) → i < length columns → is_one_of order i ≡ false → cell row i ≡ default_of (column_at columns i).ty

-- columns.txt lists columns of the definition, in some order, and count.txt counts the rows
pub record HasMetadata (definition : PartDef) (order : List ℕ) (rows : List Row) (folder : Folder) : Type 0 where
  pub listed : IsTrue (may_list definition.columns definition.must order)
  pub lists_columns : folder columns_name ≡ Some (columns_text (map (column_at definition.columns) order))
  pub counts_rows : folder count_name ≡ Some (decimal (length rows))
