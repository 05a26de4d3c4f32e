-- A list from an index on, as loops take it.
use Rattle.std.proofs.Common.{◌≡◌, ℕ, zero, suc, ◌+◌, ◌≤◌, Bool, true, false, not, List, [], ◌∷◌, length, drop, refl, ap, sym, ◌∙◌, arith, inl, inr}
use Rattle.std.specs.Prelude.{◌==◌}
use Rattle.std.proofs.lemmas.Bool.{cases_Bool, eqb-true}
use Rattle.std.proofs.Math.Seq.{drop-nil}
use Rattle.std.proofs.lemmas.List.{drop_all}

pub at_end : {X : Type 0} (xs : List X) (i : ℕ) → length xs ≤ i → drop i xs ≡ []
at_end xs i h = drop_all i xs h

pub ne_true : (b r : Bool) → r ≡ not b → r ≡ true → b ≡ false
ne_true true r e t = cc
ne_true false r e t = refl

pub ne_false : (b r : Bool) → r ≡ not b → r ≡ false → b ≡ true
ne_false true r e t = refl
ne_false false r e t = cc

pub nonempty : {X : Type 0} (xs : List X) → (xs ≡ [] → ⊥) → (length xs == 0) ≡ false
nonempty [] some = absurd (some refl)
nonempty (x ∷ xs) some =
    elim (cases_Bool (length (x ∷ xs) == 0)) [
      | inl same ↦ absurd (let e : suc (length xs) ≡ 0 = eqb-true (length (x ∷ xs)) 0 same in omega (arith, e))
      | inr other ↦ other
    ]

pub drop_drop : {X : Type 0} (m n : ℕ) (xs : List X) → drop n (drop m xs) ≡ drop (m + n) xs
drop_drop zero n xs = let e : n ≡ 0 + n = omega arith in ap (λ k. drop k xs) e
drop_drop (suc m) n [] = drop-nil n ∙ sym (drop-nil (suc m + n))
drop_drop (suc m) n (x ∷ xs) = drop_drop m n xs ∙ (let e : suc (m + n) ≡ suc m + n = omega arith in ap (λ k. drop k (x ∷ xs)) e)
