-- The names of a folder's files that are read.
use Rattle.std.specs.Prelude.{ℕ, Bool, if◌then◌else◌, ◌==◌, List, [], ◌∷◌, ◌++◌, length, map}
use Rattle.std.specs.List.{flat_map, list_any}
use Rattle.mt_table.specs.declared.column.Column.{Column}
use Rattle.mt_table.specs.declared.definition.Table.{Table}
use Rattle.mt_table.specs.declared.skip.Skip.{Skip}
use Rattle.mt_defs.specs.Metadata.{columns_name, count_name}
use Rattle.mt_defs.specs.PrimaryIndex.{index_name}
use Rattle.mt_defs.specs.Compact.{compact_data_name, compact_marks_name}
use Rattle.mt_defs.specs.Part.{wide_names, marks_ending}
use Rattle.mt_defs.specs.Partition.{minmax_name, partition_name, expression_column}
use Rattle.mt_defs.specs.SkipIndexes.{skip_data_name, skip_marks_name}

-- the data and marks files of some columns in a layout
abbrev pub data_names : List Column → Bool → List (List ℕ)
data_names columns compact = if compact then compact_data_name ∷ compact_marks_name ∷ [] else flat_map wide_names columns

-- the files of a folder with these columns in a layout, but for side files
abbrev pub own_names : List Column → Bool → List (List ℕ)
own_names columns compact = columns_name ∷ count_name ∷ index_name ∷ data_names columns compact

-- the files of a skip index in a layout
abbrev pub skip_names_in : Bool → Skip → List (List ℕ)
skip_names_in compact skip = skip_data_name skip ∷ skip_marks_name skip (marks_ending compact) ∷ []

-- each number once, where it stands last
abbrev pub each_once : List ℕ → List ℕ
each_once [] = []
each_once (x ∷ xs) = if list_any (λ y. y == x) xs then each_once xs else x ∷ each_once xs

-- the columns of a table's partition key, each once
abbrev pub partition_columns : Table → List ℕ
partition_columns table = each_once (map expression_column table.partition)

-- the files of a table's partition key, each once
abbrev pub partition_file_names : Table → List (List ℕ)
partition_file_names table = if length table.partition == 0 then [] else partition_name ∷ map (minmax_name table) (partition_columns table)

-- the files that a part in a layout may have, each once, but for projections and side files
abbrev pub base_names : Table → Bool → List (List ℕ)
base_names table compact = own_names table.columns compact ++ (partition_file_names table ++ flat_map (skip_names_in compact) table.skips)

-- the file of an expression's column, unless a later expression is over the column too
abbrev pub last_use : Table → ℕ → List ℕ → List (List ℕ)
last_use table column_index later = if list_any (λ i. i == column_index) later then [] else minmax_name table column_index ∷ []
