-- Files as a finite map from paths to bytes, and what listings and reads show of them.
use Rattle.std.specs.Prelude.{◌≡◌, ◌<◌, ◌≤◌, ◌+◌, take, drop, IsSomeAnd, ℕ, Bool, List, [], ◌∷◌, length, map, Option, None, Some, IsTrue, ◌&&◌}
use Rattle.std.specs.Str.{is_utf8}
use Rattle.std.specs.List.{list_any, list_all, filter_map}
use Rattle.std.specs.Option.{option_map}
use Rattle.std.specs.Ordering.{nat_cmp}
use Rattle.std.specs.Cmp.Lexicographic.{slice_cmp}
use Rattle.std.specs.FinMap.{FinMap, get, entries, keys, insert, is_sorted}
use Rattle.mt_shelf.specs.Paths.{joined_path, name_below, is_at_or_below, is_path, is_relative}
use Rattle.mt_shelf.specs.declared.file.Entry.{Entry}

-- the bytes of each path, in the order of the paths' bytes
abbrev pub Files : Type 0
Files = FinMap (slice_cmp nat_cmp) (List ℕ)

-- the names below a target and their bytes, in the order in which they were put
abbrev pub Draft : Type 0
Draft = List (List ℕ × List ℕ)

-- the files, with a draft written below its target: of one name the last put counts
abbrev pub gained_files : List ℕ → Draft → Files → Files
gained_files target [] files = files
gained_files target (file ∷ draft) files = gained_files target draft (insert files (joined_path target file.0) file.1)

-- a file has the path or lies below it
abbrev pub stands : List ℕ → Files → Bool
stands part files = list_any (is_at_or_below part) (keys files)

-- the entry of a file that lies below a folder
abbrev pub entry_of : List ℕ → List ℕ × List ℕ → Option Entry
entry_of part file = option_map (λ name. record { name = name; size = length file.1 }) (name_below part file.0)

-- the files below a folder, with their sizes, in the order of their names
abbrev pub entries_below : List ℕ → Files → List Entry
entries_below part files = filter_map (entry_of part) (entries files)

-- a listing with an entry at least
abbrev pub listing_of : List Entry → Option (List Entry)
listing_of [] = None
listing_of (entry ∷ entries) = Some (entry ∷ entries)

-- a path, in UTF-8
abbrev pub is_file_path : List ℕ → Bool
is_file_path path = is_utf8 path && is_path path

-- a name below a folder, in UTF-8
abbrev pub is_file_name : List ℕ → Bool
is_file_name name = is_utf8 name && is_relative name

-- each file stands at a path, in UTF-8
abbrev pub HasPaths : Files → Type 0
HasPaths files = IsTrue (list_all is_file_path (keys files))

-- the names are in UTF-8, differ and rise
pub record IsListing (listing : List Entry) : Type 0 where
  pub names : IsTrue (list_all (λ entry. is_file_name entry.name) listing)
  pub rising : IsTrue (is_sorted (slice_cmp nat_cmp) (map (λ entry. (entry.name, entry.size)) listing))

-- the path is a file's, and the offset is inside it
abbrev pub IsOffsetIn : Files → List ℕ → ℕ → Type 0
IsOffsetIn files path offset = IsSomeAnd (get files path) (λ bytes. offset < length bytes)

-- a slice stands in the bytes at an offset
pub record IsSliceOf (bytes : List ℕ) (offset : ℕ) (slice : List ℕ) : Type 0 where
  pub within : offset + length slice ≤ length bytes
  pub same : take (length slice) (drop offset bytes) ≡ slice
