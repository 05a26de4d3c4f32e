-- How ranges of values compare.
use Rattle.std.proofs.Common.{◌≡◌, ℕ, suc, ◌+◌, ◌-◌, ◌<◌, ◌≤◌, List, [], ◌∷◌, length, get_or, take, drop, refl, ap, ap₂, sym, ◌∙◌, arith, length-drop, length-take-le, ◌⊎◌, inl, inr}
use Rattle.std.proofs.lemmas.List.{drop_more}
use Rattle.std.specs.Ordering.{ordering_then, ordering_reverse, nat_cmp}
use Rattle.std.specs.Cmp.{nat_cmp_is}
use Rattle.std.specs.declared.cmp.Ordering.{Ordering}
use Rattle.std.specs.declared.cmp.Ordering.TheVariants.{Less, Equal, Greater}
use Rattle.mt_types.specs.Order.{value_cmp, values_cmp, cmp_step}
use Rattle.mt_types.specs.Ordered.{value_total}
use Rattle.mt_types.specs.declared.value.Value.TheFolds.{fold_out-Value}
use Rattle.std.specs.Prelude.{sum}
use Rattle.std.proofs.lemmas.List.{get_or_past}
use Rattle.mt_columns.specs.Nesting.{AreNested, nested_values}
use Rattle.mt_columns.proofs.NestLemmas.{array_value}
use Rattle.mt_types.proofs.OrderLemmas.{lists_cmp}
use Rattle.mt_types.specs.declared.value.Value.{Value}
use Rattle.mt_types.specs.declared.value.Value.TheVariants.{Null, List as Items, outs-Null, outs-List}
use Rattle.mt_cells.proofs.SeenLemmas.{first_decides}

-- two arrays
pub arrays_cmp : (x y : Value) (a b : List Value) → x ≡ Items a → y ≡ Items b → values_cmp a b ≡ value_cmp x y
arrays_cmp x y a b is_x is_y = sym (lists_cmp a b) ∙ sym (ap₂ value_cmp is_x is_y)

-- the first of a range
range_first : (vs : List Value) (x end : ℕ) → x < end → end ≤ length vs → take (end - x) (drop x vs) ≡ get_or vs x Null ∷ take (end - (x + 1)) (drop (x + 1) vs)
range_first vs x end h within =
    let there : x < length vs = omega (arith, h, within) in
    let left : end - x ≡ suc (end - (x + 1)) = omega (arith, h) in
    ap (take (end - x)) (drop_more vs x Null there) ∙ ap (λ (n : ℕ). take n (get_or vs x Null ∷ drop (x + 1) vs)) left

both_first : (vs : List Value) (x end y end' : ℕ) → x < end → end ≤ length vs → y < end' → end' ≤ length vs
    → values_cmp (take (end - x) (drop x vs)) (take (end' - y) (drop y vs)) ≡ ordering_then (value_cmp (get_or vs x Null) (get_or vs y Null)) (values_cmp (take (end - (x + 1)) (drop (x + 1) vs)) (take (end' - (y + 1)) (drop (y + 1) vs)))
both_first vs x end y end' h within h' within' = ap₂ values_cmp (range_first vs x end h within) (range_first vs y end' h' within')

module _ (vs : List Value) (x end y end' : ℕ) (h : x < end) (within : end ≤ length vs) (h' : y < end') (within' : end' ≤ length vs) (r whole : Ordering) (is : r ≡ value_cmp (get_or vs x Null) (get_or vs y Null))
    (left : values_cmp (take (end - x) (drop x vs)) (take (end' - y) (drop y vs)) ≡ whole) where
  -- the first two tie
  pub first_ties : r ≡ Equal → values_cmp (take (end - (x + 1)) (drop (x + 1) vs)) (take (end' - (y + 1)) (drop (y + 1) vs)) ≡ whole
  first_ties tie =
      let rest = values_cmp (take (end - (x + 1)) (drop (x + 1) vs)) (take (end' - (y + 1)) (drop (y + 1) vs)) in
      sym (ap (λ (o : Ordering). ordering_then o rest) (sym is ∙ tie)) ∙ sym (both_first vs x end y end' h within h' within') ∙ left

  -- the first two decide
  pub first_differs : (r ≡ Equal → ⊥) → r ≡ whole
  first_differs other =
      let rest = values_cmp (take (end - (x + 1)) (drop (x + 1) vs)) (take (end' - (y + 1)) (drop (y + 1) vs)) in
      sym (first_decides r rest other) ∙ ap (λ (o : Ordering). ordering_then o rest) is ∙ sym (both_first vs x end y end' h within h' within') ∙ left

-- one of two lists has ended
ended : (xs ys : List Value) → (length xs ≡ 0) ⊎ (length ys ≡ 0) → nat_cmp (length xs) (length ys) ≡ values_cmp xs ys
ended [] [] e = refl
ended [] (y ∷ ys) e = let h : 0 < length (y ∷ ys) = omega arith in sym (nat_cmp_is 0 (length (y ∷ ys)) Less h)
ended (x ∷ xs) [] e = let h : 0 < length (x ∷ xs) = omega arith in sym (nat_cmp_is (length (x ∷ xs)) 0 Greater h)
ended (x ∷ xs) (y ∷ ys) (inl e) = cc
ended (x ∷ xs) (y ∷ ys) (inr e) = cc

pub range_ended : (vs : List Value) (x end y end' : ℕ) → end ≤ length vs → end' ≤ length vs → (end - x ≡ 0) ⊎ (end' - y ≡ 0) → nat_cmp (end - x) (end' - y) ≡ values_cmp (take (end - x) (drop x vs)) (take (end' - y) (drop y vs))
range_ended vs x end y end' within within' e =
    let one : end - x ≤ length (drop x vs) = omega (arith, within, length-drop x vs) in
    let two : end' - y ≤ length (drop y vs) = omega (arith, within', length-drop y vs) in
    let long = length-take-le (end - x) (drop x vs) one in
    let long' = length-take-le (end' - y) (drop y vs) two in
    sym (ap₂ nat_cmp long long') ∙ ended (take (end - x) (drop x vs)) (take (end' - y) (drop y vs)) (elim e [
      | inl z ↦ inl (long ∙ z)
      | inr z ↦ inr (long' ∙ z)
    ])

-- ---- NULL

-- an array is before NULL
pub null_above : (xs : List Value) → value_cmp Null (Items xs) ≡ Greater
null_above xs = ap (λ (f : Value → Ordering). f (Items xs)) (fold_out-Value (Value → Ordering) cmp_step Null) ∙ simp (outs-Null, outs-List xs) refl

pub null_ties : value_cmp Null Null ≡ Equal
null_ties = ap (λ (f : Value → Ordering). f Null) (fold_out-Value (Value → Ordering) cmp_step Null) ∙ simp outs-Null refl

-- a value of a level that has arrays
pub null_to_array : (all : List (List ℕ)) (sizes : List ℕ) (levels : List (List ℕ)) (values : List Value) → all ≡ sizes ∷ levels → AreNested all values → (i : ℕ) → i < length (nested_values all values) → value_cmp Null (get_or (nested_values all values) i Null) ≡ Greater
null_to_array all sizes levels values is nested i h =
    ap (value_cmp Null) (array_value all sizes levels values is i (sum (take i sizes)) (sum (take (i + 1) sizes)) nested h refl refl) ∙ null_above _

-- where there is no value
pub past_null : (values : List Value) (a b : ℕ) (r : Ordering) → length values ≤ a → r ≡ value_cmp Null (get_or values b Null) → r ≡ value_cmp (get_or values a Null) (get_or values b Null)
past_null values a b r past is = is ∙ ap (λ (v : Value). value_cmp v (get_or values b Null)) (sym (get_or_past values a Null past))

pub null_past : (values : List Value) (a b : ℕ) (r : Ordering) → length values ≤ b → r ≡ value_cmp Null (get_or values a Null) → ordering_reverse r ≡ value_cmp (get_or values a Null) (get_or values b Null)
null_past values a b r past is =
    ap ordering_reverse is ∙ sym (value_total.antisymm (get_or values a Null) Null) ∙ ap (value_cmp (get_or values a Null)) (sym (get_or_past values b Null past))
