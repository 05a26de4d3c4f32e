-- Sizes as the ends of their pieces.
use Rattle.std.proofs.Common.{◌≡◌, ℕ, zero, suc, ◌+◌, ◌-◌, ◌<◌, ◌≤◌, List, [], ◌∷◌, ◌++◌, length, get_or, take, refl, ap, sym, ◌∙◌, arith}
use Rattle.std.specs.Prelude.{sum}
use Rattle.mt_facts.proofs.Numbers.{sum_cons}
use Rattle.mt_cells.specs.Pieces.{Rises, steps}

-- the last place, or the one where the first piece begins
abbrev pub last_or : ℕ → List ℕ → ℕ
last_or from [] = from
last_or from (end ∷ ends) = last_or end ends

pub length-steps : (from : ℕ) (ends : List ℕ) → length (steps from ends) ≡ length ends
unfolding steps
length-steps from [] = refl
length-steps from (end ∷ ends) = ap suc (length-steps end ends)

-- a piece begins where the one before it ends
pub starts : (from i : ℕ) (ends : List ℕ) → Rises from ends → i ≤ length ends → from + sum (take i (steps from ends)) ≡ get_or (from ∷ ends) i 0
unfolding steps
starts from zero ends up h = omega arith
starts from (suc i) [] up h = absurd (omega arith)
starts from (suc i) (end ∷ ends) up h =
    let next = starts end i ends up.1 (omega arith) in
    let first = sum_cons (end - from) (take i (steps end ends)) in
    omega (arith, next, first, up.0)

-- one more end
pub steps_push : (from end : ℕ) (ends : List ℕ) → steps from (ends ++ end ∷ []) ≡ steps from ends ++ (end - last_or from ends) ∷ []
unfolding steps
steps_push from end [] = refl
steps_push from end (e ∷ ends) = ap (λ (xs : List ℕ). (e - from) ∷ xs) (steps_push e end ends)

pub rises_push : (from end : ℕ) (ends : List ℕ) → Rises from ends → last_or from ends ≤ end → Rises from (ends ++ end ∷ [])
rises_push from end [] up h = (h, tt)
rises_push from end (e ∷ ends) up h = (up.0, rises_push e end ends up.1 h)

pub ends_at : (from : ℕ) (ends : List ℕ) → Rises from ends → from + sum (steps from ends) ≡ last_or from ends
unfolding steps
ends_at from [] up = omega arith
ends_at from (end ∷ ends) up =
    let next = ends_at end ends up.1 in
    let first = sum_cons (end - from) (steps end ends) in
    omega (arith, next, first, up.0)

pub steps_none : (from : ℕ) → steps from [] ≡ []
unfolding steps
steps_none from = refl

-- ---- sizes as they are seen

module _ (ends sizes : List ℕ) (up : Rises 0 ends) (is : steps 0 ends ≡ sizes) where
  pub many : length ends ≡ length sizes
  many = sym (length-steps 0 ends) ∙ ap (λ (xs : List ℕ). length xs) is

  pub start_at : (i : ℕ) → i ≤ length sizes → get_or (0 ∷ ends) i 0 ≡ sum (take i sizes)
  start_at i h =
      let s = starts 0 i ends up (omega (arith, h, many)) in
      let same : 0 + sum (take i (steps 0 ends)) ≡ sum (take i (steps 0 ends)) = omega arith in
      sym s ∙ same ∙ ap (λ (xs : List ℕ). sum (take i xs)) is

  pub end_is : (i : ℕ) → i < length sizes → get_or ends i 0 ≡ sum (take (i + 1) sizes)
  end_is i h =
      let next : suc i ≡ i + 1 = omega arith in
      start_at (suc i) (omega (arith, h)) ∙ ap (λ (n : ℕ). sum (take n sizes)) next

  total_is : sum sizes ≡ last_or 0 ends
  total_is = ap sum (sym is) ∙ (let s = ends_at 0 ends up in let e : sum (steps 0 ends) ≡ last_or 0 ends = omega (arith, s) in e)

  pub pushed : (total size end : ℕ) (out : List ℕ) → total ≡ sum sizes → end ≡ total + size → out ≡ ends ++ end ∷ [] → Rises 0 out × (steps 0 out ≡ sizes ++ size ∷ [])
  pushed total size end out t e o =
      let last : last_or 0 ends ≤ end = omega (arith, t, e, total_is) in
      let step : end - last_or 0 ends ≡ size = omega (arith, t, e, total_is) in (
        (let r = rises_push 0 end ends up last in rw o r),
        ap (steps 0) o ∙ steps_push 0 end ends ∙ ap (λ (xs : List ℕ). xs ++ (end - last_or 0 ends) ∷ []) is ∙ ap (λ (n : ℕ). sizes ++ n ∷ []) step,
      )
