-- Files in a list, as the shelves in memory hold them.
use Rattle.std.specs.Prelude.{◌≡◌, ◌++◌, length, is_some, ◌&&◌, IsTrue, ℕ, Bool, List, [], ◌∷◌, map, Option, None, Some}
use Rattle.std.specs.Option.{option_map}
use Rattle.std.specs.List.{list_all, filter_map}
use Rattle.std.specs.Ordering.{nat_cmp}
use Rattle.std.specs.Cmp.Lexicographic.{slice_cmp}
use Rattle.std.specs.FinMap.{get, from_entries, insert, len}
use Rattle.std.specs.Str.{IsUtf8}
use Rattle.mt_shelf.specs.Paths.{name_below, is_relative}
use Rattle.mt_shelf.specs.Files.{Files, Draft, is_file_path}
use Rattle.std.specs.declared.cmp.Ordering.{Ordering}
use Rattle.std.specs.declared.cmp.Ordering.TheVariants.{Less, Equal, Greater}
use Rattle.mt_fault.specs.declared.file.FileBytes.{FileBytes}
use Rattle.mt_shelf.specs.declared.file.Entry.{Entry}

-- the name and the bytes
abbrev pub pair_of : FileBytes → List ℕ × List ℕ
pair_of file = (file.name, file.bytes)

-- the files by their paths
abbrev pub files_in : List FileBytes → Files
files_in held = from_entries (map pair_of held)

-- the names, in order
abbrev pub names_in : List FileBytes → List (List ℕ)
names_in held = map (λ file. file.name) held

-- each name is a path, in UTF-8
abbrev pub all_paths : List FileBytes → Bool
all_paths held = list_all is_file_path (names_in held)

-- no two have the same name
abbrev pub AllDiffer : List FileBytes → Type 0
AllDiffer held = len (files_in held) ≡ length held

-- a file of a draft, by its name below the target
abbrev pub put_of : List ℕ → FileBytes → Option (List ℕ × List ℕ)
put_of target file = option_map (λ name. (name, file.bytes)) (name_below target file.name)

-- the draft that files by their whole paths stand for
abbrev pub draft_in : List ℕ → List FileBytes → Draft
draft_in target held = filter_map (put_of target) held

-- the files, with these written in order
abbrev pub with_files : List FileBytes → Files → Files
with_files [] files = files
with_files (file ∷ held) files = with_files held (insert files file.name file.bytes)

-- the name is one that a file of a part has, in UTF-8
pub record HasName (file : FileBytes) : Type 0 where
  pub utf8 : IsUtf8 file.name
  pub form : IsTrue (is_relative file.name)

-- the first file of a path, by its index
pub record IsFirst (held : List FileBytes) (path : List ℕ) (at : ℕ) : Type 0 where
  pub earlier : List FileBytes
  pub file : FileBytes
  pub later : List FileBytes
  pub whole : held ≡ earlier ++ file ∷ later
  pub index : length earlier ≡ at
  pub absent : get (files_in earlier) path ≡ None
  pub named : file.name ≡ path

-- one of three, by how two names compare
abbrev pub by_order : {A : Type 0} → Ordering → A → A → A → A
by_order Less less equal greater = less
by_order Equal less equal greater = equal
by_order Greater less equal greater = greater

-- the entries, with one more in the order of names, or with its size
abbrev pub with_entry : List ℕ → ℕ → List Entry → List Entry
with_entry name size [] = (record { name = name; size = size }) ∷ []
with_entry name size (entry ∷ entries) = by_order (slice_cmp nat_cmp name entry.name)
    ((record { name = name; size = size }) ∷ entry ∷ entries)
    ((record { name = entry.name; size = size }) ∷ entries)
    (entry ∷ with_entry name size entries)

-- the same, where there is a name
abbrev pub with_entry_if : Option (List ℕ) → ℕ → List Entry → List Entry
with_entry_if None size entries = entries
with_entry_if (Some name) size entries = with_entry name size entries

-- a listing, with one file more where it lies below the part
abbrev pub with_entry_of : List ℕ → List ℕ × List ℕ → List Entry → List Entry
with_entry_of part file entries = with_entry_if (name_below part file.0) (length file.1) entries

-- a file of a draft, by its whole path: it lies below the target
abbrev pub is_put : List ℕ → FileBytes → Bool
is_put target file = is_file_path file.name && is_some (name_below target file.name)
