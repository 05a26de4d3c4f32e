-- Rows in key order, rows of equal key in their former order.
use Rattle.std.specs.Prelude.{ℕ, Bool, List, [], ◌∷◌, if◌then◌else◌}
use Rattle.std.specs.List.{flat_map}
use Rattle.std.specs.List.Sorted.{IsPermutation, IsSorted, IsStable}
use Rattle.std.specs.Ordering.{is_gt, is_eq}
use Rattle.std.specs.declared.cmp.Ordering.{Ordering}
use Rattle.std.specs.Cmp.Lexicographic.{slice_cmp}
use Rattle.mt_types.specs.Order.{values_cmp}
use Rattle.mt_defs.specs.Rows.{Row, key_cmp}

-- a reordering that never falls and keeps the order of elements that tie
abbrev pub IsStablySorted : {X : Type 0} → (X → X → Ordering) → List X → List X → Type 0
IsStablySorted R xs ys = IsPermutation xs ys × IsSorted R ys × IsStable R xs ys

-- the list with an element before the first that isn't below it
abbrev pub placed_by : {X : Type 0} → (X → X → Ordering) → X → List X → List X
placed_by R x [] = x ∷ []
placed_by R x (y ∷ ys) = if is_gt (R x y) then y ∷ placed_by R x ys else x ∷ y ∷ ys

-- the one stably sorted reordering of a list, by insertion
abbrev pub sorted_by : {X : Type 0} → (X → X → Ordering) → List X → List X
sorted_by R [] = []
sorted_by R (x ∷ xs) = placed_by R x (sorted_by R xs)

-- the rows in the order of a sort key
abbrev pub sorted_rows : List ℕ → List Row → List Row
sorted_rows sort rows = sorted_by (key_cmp sort) rows

-- the rows of several lists in the order of a sort key, equal keys by the earlier list
abbrev pub merged_rows : List ℕ → List (List Row) → List Row
merged_rows sort inputs = sorted_rows sort (flat_map (λ rows. rows) inputs)

-- the test that one list is a reordering of the other: they are the same once both are in the order of whole rows
abbrev pub is_reordering : List Row → List Row → Bool
is_reordering rows others = is_eq (slice_cmp values_cmp (sorted_by values_cmp rows) (sorted_by values_cmp others))
