-- The bytes of files, by their names.
use Rattle.std.specs.Prelude.{ℕ, List, length, option_map, unwrap_or}
use Rattle.mt_shelf.specs.declared.file.Entry.{Entry}
use Rattle.mt_defs.specs.Folder.{Folder}
use Rattle.mt_files.specs.Listings.{size_in}

-- the bytes of a file, none where it isn't there
abbrev pub size_at : Folder → List ℕ → ℕ
size_at folder name = unwrap_or (option_map length (folder name)) 0

-- the same by a listing
abbrev pub listed_size : List Entry → List ℕ → ℕ
listed_size listing name = unwrap_or (size_in listing name) 0
