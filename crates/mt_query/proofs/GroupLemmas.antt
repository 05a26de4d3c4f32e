-- The places of GROUP BY, each once.
use Rattle.std.proofs.Common.{◌≡◌, ℕ, List}
use Rattle.std.specs.Prelude.{nat_eq}
use Rattle.std.specs.List.{list_any}

-- a place is among these where it is among those
abbrev pub Alike : List ℕ → List ℕ → Type 0
Alike found keys = (place : ℕ) → list_any (nat_eq place) found ≡ list_any (nat_eq place) keys
