-- Paths: names with `/` (47) between them, as `a/b.bin` or `/a/b.bin`, none of them `.` (46) or `..`.
use Rattle.std.specs.Prelude.{ℕ, Bool, true, false, not, ◌&&◌, ◌==◌, List, [], ◌∷◌, ◌++◌, if◌then◌else◌, Option, None, Some}
use Rattle.std.specs.List.{list_all}

-- one byte more at the start of the first name
abbrev pub onto_first_name : ℕ → List (List ℕ) → List (List ℕ)
onto_first_name byte [] = (byte ∷ []) ∷ []
onto_first_name byte (name ∷ names) = (byte ∷ name) ∷ names

-- the names of a path
abbrev pub path_names : List ℕ → List (List ℕ)
path_names [] = [] ∷ []
path_names (byte ∷ path) = if byte == 47 then [] ∷ path_names path else onto_first_name byte (path_names path)

-- no byte, `.` or `..`
abbrev pub is_dots : List ℕ → Bool
is_dots [] = true
is_dots (a ∷ []) = a == 46
is_dots (a ∷ b ∷ []) = (a == 46) && (b == 46)
is_dots (a ∷ b ∷ c ∷ name) = false

-- no byte is 0
abbrev pub has_no_zero : List ℕ → Bool
has_no_zero name = list_all (λ byte. not (byte == 0)) name

-- a name of a file or folder
abbrev pub is_entry_name : List ℕ → Bool
is_entry_name name = not (is_dots name) && has_no_zero name

-- names with `/` between them
abbrev pub is_relative : List ℕ → Bool
is_relative path = list_all is_entry_name (path_names path)

-- the same, after a `/` or none
abbrev pub is_path : List ℕ → Bool
is_path [] = false
is_path (byte ∷ path) = if byte == 47 then is_relative path else is_relative (byte ∷ path)

-- the path of a name below a folder
abbrev pub joined_path : List ℕ → List ℕ → List ℕ
joined_path part name = part ++ 47 ∷ name

-- the name that a path has below a folder
abbrev pub name_below : List ℕ → List ℕ → Option (List ℕ)
name_below [] [] = None
name_below [] (c ∷ path) = if c == 47 then Some path else None
name_below (p ∷ part) [] = None
name_below (p ∷ part) (c ∷ path) = if p == c then name_below part path else None

-- the path is the folder's, or lies below it
abbrev pub is_at_or_below : List ℕ → List ℕ → Bool
is_at_or_below [] [] = true
is_at_or_below [] (c ∷ path) = c == 47
is_at_or_below (p ∷ part) [] = false
is_at_or_below (p ∷ part) (c ∷ path) = (p == c) && is_at_or_below part path
