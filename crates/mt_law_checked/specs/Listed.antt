-- The names of a folder's files.
use Rattle.std.specs.Prelude.{ℕ, ◌↔◌, List, Contains, IsSome}
use Rattle.mt_defs.specs.Folder.{Folder}

-- the names are those at which the folder has a file
abbrev pub HasFilesAt : Folder → List (List ℕ) → Type 0
HasFilesAt folder names = (name : List ℕ) → IsSome (folder name) ↔ Contains names name
