-- Words on lists that std lacks.
pub use Rattle.mt_table.specs.Rows.{Pointwise}
use Rattle.std.specs.Prelude.{ℕ, ◌+◌, ◌<◌, Bool, not, List, [], ◌∷◌, map, filter, All}
use Rattle.std.specs.List.{flat_map}

-- each element once, where it first appears
abbrev pub distinct_by : {X : Type 0} → (X → X → Bool) → List X → List X
distinct_by same [] = []
distinct_by same (x ∷ xs) = x ∷ filter (λ y. not (same x y)) (distinct_by same xs)

-- a list with an element put at each place in turn
abbrev pub insertions : {X : Type 0} → X → List X → List (List X)
insertions x [] = (x ∷ []) ∷ []
insertions x (y ∷ ys) = (x ∷ y ∷ ys) ∷ map (λ zs. y ∷ zs) (insertions x ys)

-- all orders of a list
abbrev pub orders_of : {X : Type 0} → List X → List (List X)
orders_of [] = [] ∷ []
orders_of (x ∷ xs) = flat_map (insertions x) (orders_of xs)

-- where each of some runs of bytes begins, the first at this offset
abbrev pub offsets_from : ℕ → List ℕ → List ℕ
offsets_from offset [] = []
offsets_from offset (size ∷ sizes) = offset ∷ offsets_from (offset + size) sizes

-- numbers that are bytes
abbrev pub AreBytes : List ℕ → Type 0
AreBytes = All (λ byte. byte < 256)
