-- What is known of a stream that was read to its end, or written to.
use Rattle.std.specs.Prelude.{◌≡◌, ◌<◌, ◌≤◌, ℕ, List, length, take, Option, IfSome}
use Rattle.std.specs.Io.KnownBytes.{append_known, IsAtEnd}
use Rattle.mt_shelf.specs.declared.reading.Input.{Input}
use Rattle.mt_shelf.specs.declared.reading.Input.TheVariants.{Whole, TooLong}

-- the text is what was left, and nothing is left now
pub record IsWhole (limit : ℕ) (old new : Option (List ℕ)) (text : List ℕ) : Type 0 where
  pub text_is : IfSome old (λ left. left ≡ text)
  pub ended : IsAtEnd new
  pub small : length text ≤ limit

-- the input as a whole, or the finding that more than the limit was left
abbrev pub IsInput : ℕ → Option (List ℕ) → Option (List ℕ) → Input → Type 0
IsInput limit old new (Whole text) = IsWhole limit old new text
IsInput limit old new TooLong = IfSome old (λ left. limit < length left)

-- what was written grew by the first of the bytes
abbrev pub GrowsByPrefix : List ℕ → Option (List ℕ) → Option (List ℕ) → Type 0
GrowsByPrefix bytes old new = (count : ℕ) × (new ≡ append_known old (take count bytes))
