-- The files of a part that are read: those of the names that its checks ask for, docs/FORMAT.md, "Parts".
use Rattle.std.specs.Prelude.{◌≡◌, ℕ, if◌then◌else◌, List, map, Option, Some, None, option_map}
use Rattle.mt_fault.specs.declared.file.FileBytes.{FileBytes}
use Rattle.mt_table.specs.declared.definition.Table.{Table}
use Rattle.mt_table.specs.declared.projection.Projection.{Projection}
use Rattle.mt_defs.specs.Folder.{Folder, folder_below}
use Rattle.mt_defs.specs.Part.{is_compact}
use Rattle.mt_defs.specs.Projections.{inner_of, projection_prefix}
use Rattle.mt_check.specs.declared.folder.PartFiles.{PartFiles}
use Rattle.mt_check.specs.FolderChecks.{projection_is_there}
use Rattle.mt_files.specs.NamedFiles.{file_names, files_named}
use Rattle.mt_files.specs.OwnNames.{base_names, own_names}

-- the files of a part that are read, but for those of projections
abbrev pub base_files : Table → Folder → List FileBytes
base_files table folder = files_named folder (base_names table (is_compact folder))

-- the files of a definition's folder that are read
abbrev pub inner_files : Table → Projection → Folder → List FileBytes
inner_files table projection folder = files_named folder (own_names (inner_of table projection).columns (is_compact folder))

-- the files of a projection that are read, if it is there, in a part with these names
abbrev pub read_projection_files : Table → Folder → List (List ℕ) → Projection → Option (List FileBytes)
read_projection_files table folder names projection =
    if projection_is_there names projection then Some (inner_files table projection (folder_below folder (projection_prefix projection))) else None

-- the files of a part with these names that are read
abbrev pub part_files : Table → Folder → List (List ℕ) → PartFiles
part_files table folder names = record { base = base_files table folder; projections = map (read_projection_files table folder names) table.projections }

-- the same names, in the part and in each projection
pub record HaveSameNames (files others : PartFiles) : Type 0 where
  pub base : file_names files.base ≡ file_names others.base
  pub projections : map (option_map file_names) files.projections ≡ map (option_map file_names) others.projections
