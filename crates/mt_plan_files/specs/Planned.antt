-- The files that planning reads: docs/LANGUAGE.md, "Plans".
use Rattle.std.specs.Prelude.{ℕ, Bool, not, ◌==◌, if◌then◌else◌, List, [], ◌∷◌, ◌++◌, map, Option, Some, None, Result, Ok, Err, slice_index_or}
use Rattle.std.specs.List.{flat_map, sum_by}
use Rattle.mt_fault.specs.declared.fault.Fault.{Fault}
use Rattle.mt_fault.specs.declared.file.FileBytes.{FileBytes}
use Rattle.mt_table.specs.declared.column.Column.{Column}
use Rattle.mt_table.specs.declared.definition.Table.{Table}
use Rattle.mt_table.specs.declared.skip.Skip.{Skip}
use Rattle.mt_table.specs.Stored.{base_of, column_at}
use Rattle.mt_defs.specs.Compact.{compact_marks_name}
use Rattle.mt_defs.specs.FileNames.{marks_name, stream_names}
use Rattle.mt_defs.specs.Folder.{Folder}
use Rattle.mt_defs.specs.Metadata.{columns_name, count_name}
use Rattle.mt_defs.specs.Part.{is_compact}
use Rattle.mt_defs.specs.Partition.{minmax_name}
use Rattle.mt_defs.specs.PrimaryIndex.{index_name}
use Rattle.mt_query.specs.declared.cond.Cond.{Cond}
use Rattle.mt_query.specs.declared.query.Query.{Query}
use Rattle.mt_query.specs.Named.{cond_passes}
use Rattle.mt_files.specs.NamedFiles.{files_named}
use Rattle.mt_files.specs.OwnNames.{partition_columns, skip_names_in}
use Rattle.mt_files.specs.PartTexts.{order_reading}
use Rattle.mt_plan_files.specs.Sizes.{size_at}

-- ---- names

-- the condition names the column
abbrev pub names_column : Cond → ℕ → Bool
names_column cond column = not (cond_passes (λ i. not (i == column)) cond)

-- the first substream of the first of the columns that are listed
abbrev pub first_stream : List Column → (order : List ℕ) → List ℕ
first_stream columns [] = []
first_stream columns (i ∷ order) = slice_index_or (stream_names (column_at columns i)) 0 []

-- the marks file that tells the granules: that of all columns, or that of the first substream
abbrev pub granules_name : List Column → (order : List ℕ) → (compact : Bool) → List ℕ
granules_name columns order compact = if compact then compact_marks_name else marks_name (first_stream columns order)

-- the files of an index over a column that the condition names
abbrev pub asked_names : (compact : Bool) → Cond → Skip → List (List ℕ)
asked_names compact cond skip = if names_column cond skip.column then skip_names_in compact skip else []

-- the files that a condition is tried on: the bounds of the partition key's columns, and the indexes over columns that it names
abbrev pub condition_names : Table → (compact : Bool) → Option Cond → List (List ℕ)
condition_names table compact None = []
condition_names table compact (Some cond) = map (minmax_name table) (partition_columns table) ++ flat_map (asked_names compact cond) table.skips

-- the files that are read after columns.txt, which lists these columns
abbrev pub planned_names : Table → Query → (order : List ℕ) → (compact : Bool) → List (List ℕ)
planned_names table query order compact =
    count_name ∷ index_name ∷ granules_name table.columns order compact ∷ condition_names table compact query.cond

-- the same, and none where columns.txt has a fault
abbrev pub later_names : Table → Query → (compact : Bool) → Result (List ℕ) Fault → List (List ℕ)
later_names table query compact (Ok order) = planned_names table query order compact
later_names table query compact (Err fault) = []

-- the files of the base part that planning reads
abbrev pub planning_names : Table → Query → Folder → List (List ℕ)
planning_names table query folder = columns_name ∷ later_names table query (is_compact folder) (order_reading (base_of table) folder)

-- ---- what is read

-- those of these files that are there
abbrev pub planned_files : Table → Query → Folder → List FileBytes
planned_files table query folder = files_named folder (planning_names table query folder)

-- their bytes together
abbrev pub plan_cost : Table → Query → Folder → ℕ
plan_cost table query folder = sum_by (size_at folder) (planning_names table query folder)
