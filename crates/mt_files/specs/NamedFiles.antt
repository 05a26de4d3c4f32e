-- The files of some names in a folder: docs/FORMAT.md, "Parts".
use Rattle.std.specs.Prelude.{ℕ, List, map, Option, option_map}
use Rattle.std.specs.List.{filter_map}
use Rattle.std.specs.FinMap.{get}
use Rattle.mt_fault.specs.declared.file.FileBytes.{FileBytes}
use Rattle.mt_shelf.specs.Files.{Files}
use Rattle.mt_shelf.specs.Paths.{joined_path}
use Rattle.mt_defs.specs.Folder.{Folder}

-- a part's folder on a shelf
abbrev pub part_folder : List ℕ → Files → Folder
part_folder part files name = get files (joined_path part name)

-- the file of a name, if a folder has it
abbrev pub file_named : Folder → List ℕ → Option FileBytes
file_named folder name = option_map (λ bytes. record { name = name; bytes = bytes }) (folder name)

-- the files of some names that a folder has
abbrev pub files_named : Folder → List (List ℕ) → List FileBytes
files_named folder names = filter_map (file_named folder) names

-- the names of files
abbrev pub file_names : List FileBytes → List (List ℕ)
file_names files = map (λ file. file.name) files
