-- Sorting by insertion, from the last element to the first.
use Rattle.std.proofs.Common.{◌≡◌, List, [], ◌∷◌, ◌++◌, refl, ap, sym, ◌∙◌}
use Rattle.std.specs.declared.cmp.Ordering.{Ordering}
use Rattle.mt_defs.specs.Sorting.{placed_by, sorted_by}

module _ {X : Type 0} (R : X → X → Ordering) where
  -- all of these placed among others, the last first
  abbrev pub placed_all : List X → List X → List X
  placed_all [] others = others
  placed_all (x ∷ xs) others = placed_by R x (placed_all xs others)

  pub placed_last : (xs : List X) (x : X) (others : List X) → placed_all (xs ++ x ∷ []) others ≡ placed_all xs (placed_by R x others)
  placed_last [] x others = refl
  placed_last (y ∷ xs) x others = ap (placed_by R y) (placed_last xs x others)

  pub all_sorted : (xs : List X) → placed_all xs [] ≡ sorted_by R xs
  all_sorted [] = refl
  all_sorted (x ∷ xs) = ap (placed_by R x) (all_sorted xs)

  -- the last of these is placed
  pub place_step : (xs left : List X) (x : X) (ys more all : List X) → xs ≡ left ++ x ∷ [] → more ≡ placed_by R x ys → placed_all xs ys ≡ all → placed_all left more ≡ all
  place_step xs left x ys more all is placed ahead = ap (placed_all left) placed ∙ sym (placed_last left x ys) ∙ sym (ap (λ l. placed_all l ys) is) ∙ ahead
