-- How the results of the tasks grow, worker by worker and then in turn.
use Rattle.std.proofs.Common.{◌≡◌, ℕ, ◌+◌, ◌*◌, ◌<◌, ◌≤◌, List, [], ◌∷◌, ◌++◌, length, drop, get_or, arith, subst, sym, ◌∙◌, ap, inl, inr, Ok, Result, IfOk}
use Rattle.std.proofs.Math.Seq.{get_or-append_seam}
use Rattle.std.proofs.lemmas.Bool.{cases_lt}
use Rattle.std.proofs.lemmas.List.{get_or_append_left, length-drop}
use Rattle.std.proofs.lemmas.Grind.{get_or_after_one}
use Rattle.std.proofs.Math.Nat.{mul-le-mul_right}
use Rattle.mt_round.specs.Turns.{HoldsStride, HoldsTurns}

pub next_task : (a f n m s : ℕ) → a ≡ f + n * s → m ≡ n + 1 → a + s ≡ f + m * s
next_task a f n m s h e = subst (λ v. a + s ≡ f + v * s) (sym e) (omega (arith, h))

-- one result more
pub each_more : {X : Type 0} (P : ℕ → X → Type 0) (xs ys : List X) (x : X) (n : ℕ) → length xs ≡ n → ys ≡ xs ++ x ∷ [] → ((k : ℕ) (d : X) → k < n → P k (get_or xs k d)) → P n x → (k : ℕ) (d : X) → k < n + 1 → P k (get_or ys k d)
each_more {X} P xs ys x n len is old new k d h =
    subst (λ l. P k (get_or l k d)) (sym is) (
    elim (cases_lt k n) [
      | inl lt ↦ subst (λ v. P k v) (sym (get_or_append_left xs (x ∷ []) d k (omega (arith, lt, len)))) (old k d lt)
      | inr ge ↦
          let here : k ≡ length xs = omega (arith, ge, h, len) in
          let there : n ≡ k = omega (arith, ge, h) in
          subst (λ j. P k (get_or (xs ++ x ∷ []) j d)) (sym here) (
          subst (λ v. P k v) (sym (get_or-append_seam xs x [] d)) (subst (λ j. P j x) there new))
    ])

-- a worker's tasks are done once the next one is past the last
pub all_done : {X : Type 0} (P : ℕ → X → Type 0) (from step n task len : ℕ) (xs : List X) → length xs ≡ len → task ≡ from + len * step → n ≤ task → ((k : ℕ) (d : X) → k < len → P (from + k * step) (get_or xs k d)) → HoldsStride P from step n xs
all_done {X} P from step n task len xs is at past all =
    let inside : (k : ℕ) → from + k * step < n → k < len = λ k h. elim (cases_lt k len) [ inl lt ↦ lt | inr ge ↦ (let m = mul-le-mul_right step ge in omega (arith, m, at, past, h)) ] in (
      (λ k h. let l = inside k h in omega (arith, l, is)),
      (λ k d h. all k d (inside k h)),
    )

-- what is left of a worker's results once the first is taken
pub stride_rest : {X : Type 0} (P : ℕ → X → Type 0) (from step n : ℕ) (xs : List X) → HoldsStride P from step n xs → HoldsStride P (from + step) step n (drop 1 xs)
stride_rest {X} P from step n xs all =
    let e : (k : ℕ) → from + (k + 1) * step ≡ (from + step) + k * step = λ k. omega arith in
    let in_reach : (k : ℕ) → (from + step) + k * step < n → from + (k + 1) * step < n = λ k h. subst (λ j. j < n) (sym (e k)) h in (
      (λ k h. let l = length-drop 1 xs in let b = all.0 (k + 1) (in_reach k h) in omega (arith, l, b)),
      (λ k d h.
          let o : 1 + k ≡ k + 1 = omega arith in
          subst (λ v. P ((from + step) + k * step) v) (sym (get_or_after_one xs k d ∙ ap (λ j. get_or xs j d) o)) (
          subst (λ j. P j (get_or xs (k + 1) d)) (e k) (all.1 (k + 1) d (in_reach k h)))),
    )

-- the first result of the first list is that of task `at`
pub turn_first : {X L E : Type 0} (view : L → List X) (P : ℕ → X → Type 0) (at step n : ℕ) (lists : List (Result L E)) (part : L) → HoldsTurns view P at step n lists → at < n → 0 < step → get_or lists 0 (Ok part) ≡ Ok part → (0 < length (view part)) × ((d : X) → P at (get_or (view part) 0 d))
turn_first {X} {L} {E} view P at step n lists part all h some is =
    let all_here : HoldsStride P (at + 0) step n (view part) = subst (λ r. IfOk r (λ xs. HoldsStride P (at + 0) step n (view xs))) is (all 0 (Ok part) some) in
    let e : (at + 0) + 0 * step ≡ at = omega arith in
    let near : (at + 0) + 0 * step < n = omega (arith, e, h) in
    (all_here.0 0 near, λ d. subst (λ j. P j (get_or (view part) 0 d)) e (all_here.1 0 d near))

-- the first list goes to the end without its first result
pub turn_next : {X L E : Type 0} (view : L → List X) (P : ℕ → X → Type 0) (at step n : ℕ) (lists after : List (Result L E)) (part left : L) → HoldsTurns view P at step n lists → length lists ≡ step → 0 < step → get_or lists 0 (Ok part) ≡ Ok part → view left ≡ drop 1 (view part) → after ≡ drop 1 lists ++ Ok left ∷ [] → HoldsTurns view P (at + 1) step n after
turn_next {X} {L} {E} view P at step n lists after part left all len some is rest ends p d h =
    let Q : ℕ → Result L E → Type 0 = λ j r. IfOk r (λ xs. HoldsStride P j step n (view xs)) in
    let shorter : length (drop 1 lists) + 1 ≡ step = (let l = length-drop 1 lists in omega (arith, l, len, some)) in
    subst (λ l. Q ((at + 1) + p) (get_or l p d)) (sym ends) (
    elim (cases_lt p (length (drop 1 lists))) [
      | inl lt ↦
          let e : at + (1 + p) ≡ (at + 1) + p = omega arith in
          subst (λ v. Q ((at + 1) + p) v) (sym (get_or_append_left (drop 1 lists) (Ok left ∷ []) d p lt ∙ get_or_after_one lists p d)) (
          subst (λ j. Q j (get_or lists (1 + p) d)) e (all (1 + p) d (omega (arith, lt, shorter))))
      | inr ge ↦
          let here : p ≡ length (drop 1 lists) = omega (arith, ge, h, shorter) in
          let e : (at + 0) + step ≡ (at + 1) + p = omega (arith, here, shorter) in
          let first : HoldsStride P (at + 0) step n (view part) = subst (λ r. Q (at + 0) r) is (all 0 (Ok part) some) in
          let kept : Q ((at + 1) + p) (Ok left) =
          subst (λ j. HoldsStride P j step n (view left)) e (subst (λ l. HoldsStride P ((at + 0) + step) step n l) (sym rest) (stride_rest P (at + 0) step n (view part) first)) in
          subst (λ j. Q ((at + 1) + p) (get_or (drop 1 lists ++ Ok left ∷ []) j d)) (sym here) (
          subst (λ v. Q ((at + 1) + p) v) (sym (get_or-append_seam (drop 1 lists) (Ok left) [] d)) kept)
    ])
