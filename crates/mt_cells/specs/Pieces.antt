-- Pieces of a list that stand one after another, by their sizes.
use Rattle.std.specs.Prelude.{ℕ, ◌-◌, ◌≤◌, List, [], ◌∷◌, ◌++◌, length, take, drop}
use Rattle.mt_types.specs.Leb128.{leb128}

-- the pieces of these sizes
unfoldable pub cut : {X : Type 0} → List ℕ → List X → List (List X)
cut [] xs = []
cut (size ∷ sizes) xs = take size xs ∷ cut sizes (drop size xs)

-- the sizes of pieces that end at these places, where the first begins at a place
unfoldable pub steps : ℕ → List ℕ → List ℕ
steps from [] = []
steps from (end ∷ ends) = (end - from) ∷ steps end ends

-- no place is before the one that precedes it
abbrev pub Rises : ℕ → List ℕ → Type 0
Rises from [] = Unit {0}
Rises from (end ∷ ends) = (from ≤ end) × Rises end ends

-- the item of a text: its length, and its bytes
abbrev pub text_item : List ℕ → List ℕ
text_item text = leb128 (length text) ++ text
