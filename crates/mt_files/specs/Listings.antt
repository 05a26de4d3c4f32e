-- Listings of a part: the names and sizes of its files.
use Rattle.std.specs.Prelude.{ℕ, Bool, List, [], ◌∷◌, map, Option, Some, None, is_some, option_map, if◌then◌else◌}
use Rattle.std.specs.List.{list_any}
use Rattle.mt_types.specs.NameReading.{after_prefix}
use Rattle.mt_shelf.specs.declared.file.Entry.{Entry}
use Rattle.mt_defs.specs.Folder.{Folder, names_agree}

-- the size of a listed file
abbrev pub size_in : List Entry → List ℕ → Option ℕ
size_in [] name = None
size_in (entry ∷ entries) name = if names_agree entry.name name then Some entry.size else size_in entries name

-- a folder with the listed names, in which each file is empty: what a listing tells of the names
abbrev pub listed_folder : List Entry → Folder
listed_folder listing name = option_map (λ size. []) (size_in listing name)

-- the names of a listing
abbrev pub entry_names : List Entry → List (List ℕ)
entry_names listing = map (λ entry. entry.name) listing

-- one of some names begins with a prefix
abbrev pub has_below : List (List ℕ) → List ℕ → Bool
has_below names prefix = list_any (λ name. is_some (after_prefix prefix name)) names
