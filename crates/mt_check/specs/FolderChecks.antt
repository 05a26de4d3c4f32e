-- The checks of a part's folder, in their order: docs/FORMAT.md, "The first fault".
use Rattle.std.specs.Prelude.{ℕ, ◌+◌, Bool, if◌then◌else◌, List, [], ◌∷◌, length, map, Option, Some, None, Result, Ok}
use Rattle.std.specs.List.{zip}
use Rattle.mt_types.specs.declared.ty.Ty.{Ty}
use Rattle.mt_types.specs.Steps.{◌>>=◌, require}
use Rattle.mt_fault.specs.declared.fault.Fault.{Fault}
use Rattle.mt_fault.specs.declared.fault.Why.TheVariants as why
use Rattle.mt_table.specs.declared.definition.Table.{Table}
use Rattle.mt_table.specs.declared.projection.Projection.{Projection}
use Rattle.mt_table.specs.declared.skip.Skip.{Skip}
use Rattle.mt_defs.specs.Folder.{Folder, folder_below}
use Rattle.mt_defs.specs.Metadata.{column_at}
use Rattle.mt_defs.specs.Part.{is_compact, marks_ending, known_names}
use Rattle.mt_defs.specs.Projections.{base_of, inner_of, projection_prefix, is_projection_of}
use Rattle.mt_defs.specs.Rows.{Row, column_values}
use Rattle.mt_defs.specs.SkipIndexes.{entry_rows, skip_data_name, summarizes}
use Rattle.mt_fault.specs.Faults.{file_fault, granule_fault}
use Rattle.mt_files.specs.Faults.{named_below}
use Rattle.mt_files.specs.Listings.{has_below}
use Rattle.mt_names.specs.ProjectionFolders.{projection_folder}
use Rattle.mt_files.specs.PartTexts.{order_reading}
use Rattle.mt_files.specs.SkipMarks.{has_files, index_entries}
use Rattle.mt_strays.specs.Strays.{strays_reading}
use Rattle.mt_definition.specs.declared.accepted.Accepted.{Accepted}
use Rattle.mt_definition.specs.DefinitionReading.{definition_reading}
use Rattle.mt_check.specs.PartitionReading.{partition_reading}

-- the checks of each item, in order
abbrev pub each : {A : Type 0} → (A → Result Unit Fault) → List A → Result Unit Fault
each check [] = Ok tt
each check (x ∷ xs) = do
  _ ← check x
  each check xs

-- ---- skip indexes

-- each entry is the one of its rows; the first one is over a granule and those after it (8.6)
unfoldable pub entries_checks : Skip → Ty → ℕ → List (List Row × List ℕ) → Result Unit Fault
entries_checks skip ty granule [] = Ok tt
entries_checks skip ty granule ((rows, entry) ∷ entries) = do
  _ ← require (summarizes skip.kind ty (column_values skip.column rows) entry) (granule_fault (skip_data_name skip) granule why.Value)
  entries_checks skip ty (granule + skip.granularity) entries

-- a skip index is there: one of its files is
abbrev pub skip_is_there : Folder → Skip → Bool
skip_is_there folder skip = has_files folder (marks_ending (is_compact folder)) skip

-- the files of a skip index, which has as many entries as there are groups of the rows that were read
abbrev pub index_checks : Table → Folder → Accepted → Skip → Result Unit Fault
index_checks table folder accepted skip = do
  entries ← index_entries folder (marks_ending (is_compact folder)) skip (length (entry_rows skip accepted.rows accepted.granules))
  entries_checks skip (column_at table.columns skip.column).ty 0 (zip (entry_rows skip accepted.rows accepted.granules) entries)

-- the same where the index is there (8)
abbrev pub skip_checks : Table → Folder → Accepted → Skip → Result Unit Fault
skip_checks table folder accepted skip = if skip_is_there folder skip then index_checks table folder accepted skip else Ok tt

-- ---- projections

-- the files of a projection, whose rows stand for those that were read (9.1, 9.2)
abbrev pub stored_checks : Table → Accepted → Projection → Folder → Result Unit Fault
stored_checks table accepted projection files = do
  stored ← named_below (projection_prefix projection) (definition_reading (inner_of table projection) files)
  require (is_projection_of table projection accepted.rows stored.rows) (file_fault (projection_folder projection) why.Projection)

-- the same where the projection is there
abbrev pub projection_checks : Table → Accepted → Projection → Option Folder → Result Unit Fault
projection_checks table accepted projection None = Ok tt
projection_checks table accepted projection (Some files) = stored_checks table accepted projection files

-- the projections, each with its files if it is there
abbrev pub projections_checks : Table → Accepted → List (Projection × Option Folder) → Result Unit Fault
projections_checks table accepted projections = each (λ (projection, files). projection_checks table accepted projection files) projections

-- a projection is there: a name is below its folder
abbrev pub projection_is_there : List (List ℕ) → Projection → Bool
projection_is_there names projection = has_below names (projection_prefix projection)

-- the files of a projection of a part with these names, if it is there
abbrev pub projection_folder_in : Folder → List (List ℕ) → Projection → Option Folder
projection_folder_in folder names projection = if projection_is_there names projection then Some (folder_below folder (projection_prefix projection)) else None

-- the files of each projection of a part with these names
abbrev pub projection_folders : Table → Folder → List (List ℕ) → List (Option Folder)
projection_folders table folder names = map (projection_folder_in folder names) table.projections

-- ---- the part

-- what the files of a part and of its projections stand for, or their first fault (1 to 9)
abbrev pub files_checks : Table → Folder → List (Option Folder) → Result Accepted Fault
files_checks table folder projections = do
  accepted ← definition_reading (base_of table) folder
  _ ← partition_reading table folder accepted
  _ ← each (skip_checks table folder accepted) table.skips
  _ ← projections_checks table accepted (zip table.projections projections)
  Ok accepted

-- what a folder with these names stands for, or its first fault; the names stand in their byte order, so the first stray is the least (1 to 10)
abbrev pub folder_checks : Table → Folder → List (List ℕ) → Result Accepted Fault
folder_checks table folder names = do
  accepted ← files_checks table folder (projection_folders table folder names)
  order ← order_reading (base_of table) folder
  _ ← strays_reading (known_names table order folder) names
  Ok accepted
