-- Orders that agree sort alike.
use Rattle.std.proofs.Common.{◌≡◌, cond, List, [], ◌∷◌, refl, ap, ◌∙◌}
use Rattle.std.specs.Ordering.{is_gt}
use Rattle.std.specs.declared.cmp.Ordering.{Ordering}
use Rattle.mt_defs.specs.Sorting.{placed_by, sorted_by}

module _ {X : Type 0} (R : X → X → Ordering) where
  module _ (S : X → X → Ordering) (same : (x y : X) → R x y ≡ S x y) where
    placed_same : (x : X) (ys : List X) → placed_by R x ys ≡ placed_by S x ys
    placed_same x [] = refl
    placed_same x (y ∷ ys) =
        ap (λ o. cond (is_gt o) (y ∷ placed_by R x ys) (x ∷ y ∷ ys)) (same x y) ∙ ap (λ l. cond (is_gt (S x y)) (y ∷ l) (x ∷ y ∷ ys)) (placed_same x ys)

    -- orders that agree sort alike
    pub sorted_same : (xs : List X) → sorted_by R xs ≡ sorted_by S xs
    sorted_same [] = refl
    sorted_same (x ∷ xs) = placed_same x (sorted_by R xs) ∙ ap (placed_by S x) (sorted_same xs)
