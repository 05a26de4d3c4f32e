-- Sets of names, as contracts see them.
use Rattle.std.specs.Prelude.{◌≡◌, ℕ, Bool, List}
use Rattle.std.specs.List.{list_any}
use Rattle.std.specs.Str.{bytes_eq}
use Rattle.mt_strays.specs.declared.name_set.NameSet.{NameSet}
use Rattle.mt_strays.specs.Strays.{is_known_name}

-- the name is one of a set's
abbrev pub is_in_set : NameSet → List ℕ → Bool
is_in_set set name = list_any (λ other. bytes_eq name other.now) set.set.keys

-- the set is of these names
abbrev pub HasNames : NameSet → List (List ℕ) → Type 0
HasNames set names = (name : List ℕ) → is_in_set set name ≡ is_known_name names name
