-- Granules cut off one by one.
use Rattle.std.proofs.Common.{◌≡◌, ℕ, ◌+◌, ◌-◌, ◌<◌, ◌≤◌, List, ◌∷◌, length, take, drop, get_or, ap, sym, ◌∙◌, arith}
use Rattle.std.specs.Prelude.{sum}
use Rattle.std.proofs.lemmas.List.{drop_more, length-drop}
use Rattle.std.proofs.lemmas.List.Sums.{sum_by-cons}
use Rattle.mt_defs.specs.Rows.{Row}
use Rattle.mt_defs.specs.Granules.{granule_rows}

-- a granule is within what is left
pub granule_within : (granules : List ℕ) (i : ℕ) (rest : List Row) → i < length granules → sum (drop i granules) ≡ length rest → get_or granules i 0 ≤ length rest
granule_within granules i rest h cut =
    let here = drop_more granules i 0 h in
    let total : sum (get_or granules i 0 ∷ drop (i + 1) granules) ≡ get_or granules i 0 + sum (drop (i + 1) granules) = sum_by-cons (λ x. x) (get_or granules i 0) (drop (i + 1) granules) in
    let all : sum (drop i granules) ≡ sum (get_or granules i 0 ∷ drop (i + 1) granules) = ap (λ (l : List ℕ). sum l) here in
    omega arith

-- what is left after it
pub granule_cut : (granules : List ℕ) (i : ℕ) (rest after : List Row) → i < length granules → after ≡ drop (get_or granules i 0) rest → sum (drop i granules) ≡ length rest → sum (drop (i + 1) granules) ≡ length after
granule_cut granules i rest after h back cut =
    let here = drop_more granules i 0 h in
    let total : sum (get_or granules i 0 ∷ drop (i + 1) granules) ≡ get_or granules i 0 + sum (drop (i + 1) granules) = sum_by-cons (λ x. x) (get_or granules i 0) (drop (i + 1) granules) in
    let all : sum (drop i granules) ≡ sum (get_or granules i 0 ∷ drop (i + 1) granules) = ap (λ (l : List ℕ). sum l) here in
    let left : length after ≡ length rest - get_or granules i 0 = ap (λ (l : List Row). length l) back ∙ length-drop (get_or granules i 0) rest in
    omega arith

-- the granule and those after it
pub granule_next : (granules : List ℕ) (i : ℕ) (rest granule after : List Row) → i < length granules → granule ≡ take (get_or granules i 0) rest → after ≡ drop (get_or granules i 0) rest
    → granule_rows (drop i granules) rest ≡ granule ∷ granule_rows (drop (i + 1) granules) after
granule_next granules i rest granule after h front back =
    ap (λ (l : List ℕ). granule_rows l rest) (drop_more granules i 0 h)
    ∙ ap (λ (g : List Row). g ∷ granule_rows (drop (i + 1) granules) (drop (get_or granules i 0) rest)) (sym front)
    ∙ ap (λ (a : List Row). granule ∷ granule_rows (drop (i + 1) granules) a) (sym back)
