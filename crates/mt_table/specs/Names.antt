-- Names and lists of names: docs/LANGUAGE.md, "Table text".
use Rattle.std.specs.Prelude.{ℕ, Bool, true, false, not, ◌&&◌, nat_eq, List, [], ◌∷◌, ◌++◌, codes}
use Rattle.std.specs.List.{list_all, list_any}
use Rattle.std.specs.Str.{bytes_eq}

-- no element stands again later
abbrev pub are_different : {A : Type 0} → (A → A → Bool) → List A → Bool
are_different same [] = true
are_different same (x ∷ xs) = not (list_any (same x) xs) && are_different same xs

-- no name stands twice
abbrev pub names_differ : List (List ℕ) → Bool
names_differ = are_different bytes_eq

-- no number stands twice
abbrev pub places_differ : List ℕ → Bool
places_differ = are_different nat_eq

-- the name is one of these
abbrev pub is_among : List (List ℕ) → List ℕ → Bool
is_among names name = list_any (bytes_eq name) names

-- each of the names is one of these
abbrev pub are_among : List (List ℕ) → List (List ℕ) → Bool
are_among names some = list_all (is_among names) some

-- the one list begins the other
abbrev pub begins : List (List ℕ) → List (List ℕ) → Bool
begins [] names = true
begins (first ∷ more) [] = false
begins (first ∷ more) (name ∷ names) = bytes_eq first name && begins more names

-- what the files of an index are named after
abbrev pub skip_stem : List ℕ → List ℕ
skip_stem name = codes "skp_idx_" ++ name

-- no column is named as the files of an index
abbrev pub are_apart : List (List ℕ) → List (List ℕ) → Bool
are_apart columns indexes = list_all (λ name. not (is_among columns (skip_stem name))) indexes
