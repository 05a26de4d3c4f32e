-- Bytes round a separator.
use Rattle.std.specs.Prelude.{ℕ, ◌==◌, if◌then◌else◌, List, [], ◌∷◌, Option, Some, None, option_map}

-- one more byte before a pair's first part
abbrev pub onto_before : ℕ → List ℕ × List ℕ → List ℕ × List ℕ
onto_before byte (before, after) = (byte ∷ before, after)

-- what stands before the first separator, and what follows it, if it is there
abbrev pub split_once : (separator : ℕ) → List ℕ → Option (List ℕ × List ℕ)
split_once separator [] = None
split_once separator (byte ∷ bytes) = if byte == separator then Some ([], bytes) else option_map (onto_before byte) (split_once separator bytes)
