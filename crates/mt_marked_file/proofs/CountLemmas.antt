-- Numbers that are taken from a limit, one after another.
use Rattle.std.proofs.Common.{◌≡◌, ℕ, ◌+◌, ◌-◌, ◌<◌, ◌≤◌, Bool, true, false, List, [], ◌∷◌, length, drop, get_or, refl, ap, sym, ◌∙◌, arith}
use Rattle.std.specs.Prelude.{nat_le, sum}
use Rattle.std.proofs.lemmas.Bool.{le-leb, leb-true, leb-false}
use Rattle.std.proofs.lemmas.List.{drop_all}
use Rattle.mt_facts.proofs.Lists.{drop_next}
use Rattle.mt_facts.proofs.Numbers.{sum_cons}

sum_next : (counts : List ℕ) (i x : ℕ) → i < length counts → x ≡ get_or counts i x → sum (drop i counts) ≡ x + sum (drop (i + 1) counts)
sum_next counts i x inside at = ap sum (drop_next counts i x inside at) ∙ sum_cons x (drop (i + 1) counts)

moved : (x rest left : ℕ) → x ≤ left → nat_le (x + rest) left ≡ nat_le rest (left - x)
moved x rest left within = grind arith

over : (x rest left : ℕ) → left < x → nat_le (x + rest) left ≡ false
over x rest left less = grind arith

module _ (counts : List ℕ) (i x left limit : ℕ) (inside : i < length counts) (at : x ≡ get_or counts i x) (before : nat_le (sum (drop i counts)) left ≡ nat_le (sum counts) limit) where
  -- one more is within what is left
  pub few_next : x ≤ left → nat_le (sum (drop (i + 1) counts)) (left - x) ≡ nat_le (sum counts) limit
  few_next within = sym (moved x (sum (drop (i + 1) counts)) left within) ∙ ap (λ (k : ℕ). nat_le k left) (sym (sum_next counts i x inside at)) ∙ before

  -- and one that isn't ends it
  pub few_not : left < x → false ≡ nat_le (sum counts) limit
  few_not less = sym (over x (sum (drop (i + 1) counts)) left less) ∙ ap (λ (k : ℕ). nat_le k left) (sym (sum_next counts i x inside at)) ∙ before

-- all are within it
pub few_all : (counts : List ℕ) (i left limit : ℕ) → length counts ≤ i → nat_le (sum (drop i counts)) left ≡ nat_le (sum counts) limit → true ≡ nat_le (sum counts) limit
few_all counts i left limit past before = sym (le-leb 0 left (omega arith)) ∙ sym (ap (λ (rest : List ℕ). nat_le (sum rest) left) (drop_all i counts past)) ∙ before
