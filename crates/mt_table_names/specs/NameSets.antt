-- Sets of names, as contracts see them.
use Rattle.std.specs.Prelude.{◌≡◌, ℕ, true, List, map}
use Rattle.mt_table_names.specs.declared.names.Names.{Names}
use Rattle.mt_table.specs.Names.{names_differ}

-- the names of a set, in their order
abbrev pub listed : Names → List (List ℕ)
listed names = map (λ name. name.now) names.set.keys

-- the set is of these names, which differ
pub record AreListed (set : Names) (names : List (List ℕ)) : Type 0 where
  pub are : listed set ≡ names
  pub differ : names_differ names ≡ true
