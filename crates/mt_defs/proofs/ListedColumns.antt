-- The columns that a folder may list.
use Rattle.std.proofs.Common.{◌≡◌, ℕ, zero, suc, ◌<◌, ◌≤◌, true, false, List, [], ◌∷◌, length, ap, sym, ◌∙◌, get_or, arith, inl, inr}
use Rattle.std.specs.Prelude.{◌||◌, nat_eq, nat_lt, not, All}
use Rattle.std.specs.List.{AllByRecursion, IsDistinct, list_all, list_any}
use Rattle.std.proofs.lemmas.Bool.{cases_Bool, eqb-true, ltb-true, or_parts, not-true}
use Rattle.std.proofs.lemmas.Map.Steps.{length-le_from_distinct_below}
use Rattle.mt_types.proofs.StepLemmas.{both_true}
use Rattle.mt_table.specs.declared.column.Column.{Column}
use Rattle.mt_table.specs.Kept.{is_one_of, is_place}
use Rattle.mt_table.specs.Names.{places_differ}
use Rattle.mt_table.proofs.StoredLemmas.{place_within}
use Rattle.mt_defs.specs.Metadata.{may_list}

-- what is said of the columns that a folder may list
pub record Listed (columns : List Column) (must order : List ℕ) : Type 0 where
  pub known : All (λ i. i < length columns) order
  pub once : places_differ order ≡ true
  pub has : list_all (is_one_of order) must ≡ true

pub listed : (columns : List Column) (must order : List ℕ) → may_list columns must order ≡ true → Listed columns must order
listed columns must order may =
    let first = both_true (list_all (is_place columns) order) _ may in
    let rest = both_true (places_differ order) _ first.1 in
    record { known = λ i d inside. place_within columns order i d first.0 inside; once = rest.0; has = rest.1 }

-- ---- no more than there are

apart : (x : ℕ) (xs : List ℕ) → list_any (nat_eq x) xs ≡ false → AllByRecursion (λ y. nat_eq x y ≡ false) xs
apart x [] e = tt
apart x (y ∷ ys) e = let both = or_parts (nat_eq x y) (list_any (nat_eq x) ys) e in (both.0, apart x ys both.1)

-- places that differ are distinct
pub distinct : (xs : List ℕ) → places_differ xs ≡ true → IsDistinct nat_eq xs
unfolding IsDistinct
distinct [] e = tt
distinct (x ∷ xs) e =
    let both = both_true (not (list_any (nat_eq x) xs)) (places_differ xs) e in
    (apart x xs (not-true (list_any (nat_eq x) xs) both.0), distinct xs both.1)

below : (n q : ℕ) (xs : List ℕ) → list_all (λ i. nat_lt i n) xs ≡ true → list_any (nat_eq q) xs ≡ true → q < n
below n q [] all any = cc
below n q (x ∷ xs) all any =
    let both = both_true (nat_lt x n) (list_all (λ i. nat_lt i n) xs) all in
    elim (cases_Bool (nat_eq q x)) [
      | inl same ↦ let is = eqb-true q x same in let small = ltb-true x n both.0 in omega (arith, is, small)
      | inr other ↦ below n q xs both.1 (ap (λ b. b || list_any (nat_eq q) xs) (sym other) ∙ any)
    ]

-- a folder lists at most as many columns as there are
pub listed_few : (columns : List Column) (must order : List ℕ) → may_list columns must order ≡ true → length order ≤ length columns
listed_few columns must order may =
    let first = both_true (list_all (is_place columns) order) _ may in
    let rest = both_true (places_differ order) _ first.1 in
    length-le_from_distinct_below order (length columns) (distinct order rest.0) (λ q has. below (length columns) q order first.0 has)

-- and at least one, where it must list one
pub listed_some : (columns : List Column) (must order : List ℕ) → may_list columns must order ≡ true → 1 ≤ length must → 1 ≤ length order
listed_some columns must order may some = first must order (listed columns must order may).has some
  where
    first : (must order : List ℕ) → list_all (is_one_of order) must ≡ true → 1 ≤ length must → 1 ≤ length order
    first [] order has some = absurd (omega (arith, some))
    first (i ∷ must) [] has some = cc
    first (i ∷ must) (place ∷ order) has some = omega arith
