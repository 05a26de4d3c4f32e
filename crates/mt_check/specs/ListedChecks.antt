-- The checks of files that were read, in a part that is listed.
use Rattle.std.specs.Prelude.{List, map, Option, option_map, Result, Ok}
use Rattle.mt_types.specs.Steps.{◌>>=◌}
use Rattle.mt_fault.specs.declared.fault.Fault.{Fault}
use Rattle.mt_shelf.specs.declared.file.Entry.{Entry}
use Rattle.mt_table.specs.declared.definition.Table.{Table}
use Rattle.mt_defs.specs.Folder.{Folder, folder_of}
use Rattle.mt_defs.specs.Projections.{base_of}
use Rattle.mt_files.specs.PartTexts.{order_reading}
use Rattle.mt_strays.specs.Strays.{names_reading}
use Rattle.mt_definition.specs.declared.accepted.Accepted.{Accepted}
use Rattle.mt_check.specs.declared.folder.PartFiles.{PartFiles}
use Rattle.mt_check.specs.FolderChecks.{files_checks}

-- the files of each projection that were read, as folders
abbrev pub folders_of : PartFiles → List (Option Folder)
folders_of files = map (option_map folder_of) files.projections

-- what files that were read stand for, in a part that is listed so, or the first fault
abbrev pub listed_checks : Table → PartFiles → List Entry → Result Accepted Fault
listed_checks table files listing = do
  accepted ← files_checks table (folder_of files.base) (folders_of files)
  order ← order_reading (base_of table) (folder_of files.base)
  _ ← names_reading table order listing
  Ok accepted
