-- The files below a part.
use Rattle.std.specs.Prelude.{ℕ, Bool, List, [], ◌∷◌, ◌++◌, Option, Some, None, if◌then◌else◌}
use Rattle.std.specs.Ordering.{nat_cmp, is_eq}
use Rattle.std.specs.Cmp.Lexicographic.{slice_cmp}
use Rattle.mt_fault.specs.declared.file.FileBytes.{FileBytes}

-- what each name below a part holds, if a file is there
abbrev pub Folder : Type 0
Folder = List ℕ → Option (List ℕ)

-- the names are the same, byte by byte
abbrev pub names_agree : List ℕ → List ℕ → Bool
names_agree a b = is_eq (slice_cmp nat_cmp a b)

-- the folder that a list of files makes
abbrev pub folder_of : List FileBytes → Folder
folder_of [] name = None
folder_of (file ∷ files) name = if names_agree file.name name then Some file.bytes else folder_of files name

-- the folder below a prefix of the names, as `p.proj/`
abbrev pub folder_below : Folder → List ℕ → Folder
folder_below folder prefix name = folder (prefix ++ name)
