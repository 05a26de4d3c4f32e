-- Sizes and their sum.
use Rattle.std.proofs.Common.{◌≡◌, ℕ, zero, suc, ◌+◌, ◌<◌, List, [], ◌∷◌, length, take, get_or, sum, ◌∙◌, arith, add-one}
use Rattle.mt_facts.proofs.Numbers.{sum_cons}

sum_suc : (ns : List ℕ) (i : ℕ) → i < length ns → sum (take (suc i) ns) ≡ sum (take i ns) + get_or ns i 0
sum_suc [] i less = absurd (omega arith)
sum_suc (n ∷ ns) zero less = sum_cons n [] ∙ add-zero n
  where
    add-zero : (n : ℕ) → n + 0 ≡ 0 + n
    add-zero n = omega arith
sum_suc (n ∷ ns) (suc i) less =
    let more = sum_suc ns i (omega arith) in
    omega (arith, sum_cons n (take (suc i) ns), sum_cons n (take i ns), more)

-- one size more
pub sum_more : (ns : List ℕ) (i : ℕ) → i < length ns → sum (take (i + 1) ns) ≡ sum (take i ns) + get_or ns i 0
sum_more ns i less = rw add-one (sum_suc ns i less)
