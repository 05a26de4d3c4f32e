-- Names that may not stand below a part: docs/FORMAT.md, "Parts" and "The first fault".
use Rattle.std.specs.Prelude.{ℕ, Bool, List, [], ◌∷◌, Option, Some, None, if◌then◌else◌, Result}
use Rattle.std.specs.List.{list_any}
use Rattle.mt_fault.specs.declared.fault.Fault.{Fault}
use Rattle.mt_fault.specs.declared.fault.Why.TheVariants.{Stray}
use Rattle.mt_fault.specs.Faults.{file_fault}
use Rattle.mt_shelf.specs.declared.file.Entry.{Entry}
use Rattle.mt_table.specs.declared.definition.Table.{Table}
use Rattle.mt_defs.specs.Folder.{names_agree}
use Rattle.mt_defs.specs.Part.{known_names}
use Rattle.mt_files.specs.Faults.{none_found}
use Rattle.mt_files.specs.Listings.{listed_folder, entry_names}

-- a name that may stand in the folder
abbrev pub is_known_name : List (List ℕ) → List ℕ → Bool
is_known_name known name = list_any (λ other. names_agree other name) known

-- the first of some names that isn't known, which is the least where the names stand in their byte order
abbrev pub first_unknown : List (List ℕ) → List (List ℕ) → Option (List ℕ)
first_unknown known [] = None
first_unknown known (name ∷ names) = if is_known_name known name then first_unknown known names else Some name

-- each of some names is known, or the first that isn't is a stray
abbrev pub strays_reading : List (List ℕ) → List (List ℕ) → Result Unit Fault
strays_reading known names = none_found (first_unknown known names) (λ name. file_fault name Stray)

-- each name in a listing may stand below a part with these columns, or the first that may not; a listing is in the byte order of its names
abbrev pub names_reading : Table → List ℕ → List Entry → Result Unit Fault
names_reading table order listing = strays_reading (known_names table order (listed_folder listing)) (entry_names listing)
