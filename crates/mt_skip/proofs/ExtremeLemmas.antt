-- The best of some values is the least or the greatest, and there is only one.
use Rattle.std.proofs.Common.{◌≡◌, ℕ, suc, ◌-◌, ◌<◌, ◌≤◌, ◌↔◌, Bool, true, false, cond, List, [], ◌∷◌, ◌++◌, length, take, drop, get_or, refl, ap, sym, ◌∙◌, subst, inl, inr, arith}
use Rattle.std.specs.Prelude.{All, Contains}
use Rattle.std.specs.List.{flat_map}
use Rattle.std.specs.Ordering.{is_lt, is_gt, ordering_reverse}
use Rattle.std.specs.Cmp.{IsTotalOrder}
use Rattle.std.specs.declared.cmp.Ordering.{Ordering}
use Rattle.std.specs.declared.cmp.Ordering.TheVariants.{Less, Equal, Greater}
use Rattle.std.proofs.Math.Seq.{drop-cons}
use Rattle.std.proofs.lemmas.Bool.{cases_Bool}
use Rattle.std.proofs.lemmas.Cmp.{upto}
use Rattle.std.proofs.lemmas.List.{append-nil}
use Rattle.std.proofs.lemmas.List.Elements.{All-cons}
use Rattle.mt_facts.proofs.Orderings.{not_gt_from_le, le_from_not_gt}
use Rattle.mt_types.specs.declared.ty.Ty.{Ty}
use Rattle.mt_types.specs.declared.value.Value.{Value}
use Rattle.mt_types.specs.Items.{item_bytes}
use Rattle.mt_types.specs.Order.{value_cmp}
use Rattle.mt_types.specs.Ordered.{value_total}
use Rattle.mt_types.specs.Ties.{exact_values}
use Rattle.mt_defs.specs.Partition.{IsMinmaxOf}
use Rattle.mt_defs.specs.WrittenPartition.{best_of, better_of, minmax_bytes}
use Rattle.mt_skip.specs.declared.extreme.Extreme.{Extreme}
use Rattle.mt_skip.specs.declared.extreme.Extreme.TheVariants.{Least, Greatest}
use Rattle.mt_skip.specs.Extremes.{is_better, values_at}

-- ---- places

pub value_alone : (place : ℕ) (values : List Value) (d : Value) → place < length values → values_at place values ≡ get_or values place d ∷ []
value_alone place values d inside = ap (take 1) (drop-cons values place d inside)

last_alone : (x : Value) (xs : List Value) → drop (length xs) (x ∷ xs) ≡ take 1 (drop (length xs) (x ∷ xs))
last_alone x [] = refl
last_alone x (y ∷ ys) = last_alone y ys

one_best : (better : Value → Value → Bool) (values : List Value) → values ≡ take 1 values → values ≡ best_of better values
one_best better [] one = refl
one_best better (x ∷ []) one = refl
one_best better (x ∷ y ∷ ys) one = cc

-- the last value is the best of itself
pub best_begins : (better : Value → Value → Bool) (values : List Value) (n : ℕ) → 0 < length values → n ≡ length values - 1 → values_at n values ≡ best_of better (drop n values)
best_begins better [] n some is = absurd (omega (arith, some))
best_begins better (x ∷ xs) n some is =
    let e : n ≡ length xs = omega (arith, is) in
    let one = last_alone x xs in
    subst (λ k. values_at k (x ∷ xs) ≡ best_of better (drop k (x ∷ xs))) (sym e) (sym one ∙ one_best better (drop (length xs) (x ∷ xs)) (one ∙ refl))

chosen : (values : List Value) (i j : ℕ) (x y : Value) (b : Bool) → values_at i values ≡ x ∷ [] → values_at j values ≡ y ∷ [] → values_at (cond b i j) values ≡ cond b (x ∷ []) (y ∷ [])
chosen values i j x y true p q = p
chosen values i j x y false p q = q

-- the best of one value more
pub best_more : (better : Value → Value → Bool) (values : List Value) (left best next : ℕ) (d : Value) → 0 < left → left ≤ best → best < length values → values_at best values ≡ best_of better (drop left values)
    → next ≡ cond (better (get_or values best d) (get_or values (left - 1) d)) best (left - 1)
    → values_at next values ≡ best_of better (drop (left - 1) values)
best_more better values left best next d some behind within is next_is =
    let w = get_or values best d in
    let v = get_or values (left - 1) d in
    let in_front : left - 1 < length values = omega (arith, some, behind, within) in
    let again : suc (left - 1) ≡ left = omega (arith, some) in
    let rest : drop (left - 1) values ≡ v ∷ drop left values = drop-cons values (left - 1) d in_front ∙ ap (λ k. v ∷ drop k values) again in
    let best_is : best_of better (drop left values) ≡ w ∷ [] = sym is ∙ value_alone best values d within in
    let both : best_of better (drop (left - 1) values) ≡ cond (better w v) (w ∷ []) (v ∷ []) = ap (best_of better) rest ∙ ap (better_of better v) best_is in
    ap (λ k. values_at k values) next_is ∙ chosen values best (left - 1) w v (better w v) (value_alone best values d within) (value_alone (left - 1) values d in_front) ∙ sym both

-- ---- which value it is

abbrev ordered_by : Extreme → Value → Value → Ordering
ordered_by Least v w = value_cmp v w
ordered_by Greatest v w = value_cmp w v

ordered_total : (extreme : Extreme) → IsTotalOrder (ordered_by extreme)
ordered_total Least = value_total
ordered_total Greatest = record {
  antisymm = λ x y. value_total.antisymm y x;
  trans = λ x y z e f. value_total.trans z y x f e;
  congr = λ x y z e. ap (λ v. value_cmp z v) (sym (exact_values y x e));
}

is_better_lt : (extreme : Extreme) (v w : Value) → is_better extreme v w ≡ is_lt (ordered_by extreme v w)
is_better_lt Least v w = refl
is_better_lt Greatest v w = refl

exact_by : (extreme : Extreme) (v w : Value) → ordered_by extreme v w ≡ Equal → v ≡ w
exact_by Least v w e = exact_values v w e
exact_by Greatest v w e = sym (exact_values w v e)

-- not after another, from an end
abbrev NotAfter : Extreme → Value → Value → Type 0
NotAfter extreme v w = is_gt (ordered_by extreme v w) ≡ false

lt_not_gt : (o : Ordering) → is_lt o ≡ true → is_gt o ≡ false
lt_not_gt Less e = refl
lt_not_gt Equal e = cc
lt_not_gt Greater e = cc

turned_not_gt : (o p : Ordering) → o ≡ ordering_reverse p → is_lt p ≡ false → is_gt o ≡ false
turned_not_gt o Less e n = cc
turned_not_gt o Equal e n = ap is_gt e
turned_not_gt o Greater e n = ap is_gt e

self_equal : (o : Ordering) → o ≡ ordering_reverse o → o ≡ Equal
self_equal Less e = cc
self_equal Equal e = refl
self_equal Greater e = cc

-- the best of some values: one of them, and not after any
record Best (extreme : Extreme) (values : List Value) (v : Value) : Type 0 where
  is : best_of (is_better extreme) values ≡ v ∷ []
  among : Contains values v
  first : All (λ other. NotAfter extreme v other) values

not_after_self : (extreme : Extreme) (v : Value) → NotAfter extreme v v
not_after_self extreme v = ap is_gt (self_equal (ordered_by extreme v v) ((ordered_total extreme).antisymm v v))

tie_equal : (r s : Ordering) → r ≡ ordering_reverse s → is_gt r ≡ false → is_gt s ≡ false → r ≡ Equal
tie_equal Less Less e p q = cc
tie_equal Less Equal e p q = cc
tie_equal Less Greater e p q = cc
tie_equal Equal s e p q = refl
tie_equal Greater s e p q = cc

no_others : (P : Value → Type 0) → All P []
no_others P k d inside = absurd (omega (arith, inside))

-- some values have a best
best_at : (extreme : Extreme) (x : Value) (xs : List Value) → (v : Value) × Best extreme (x ∷ xs) v
best_at extreme x [] = (
  x,
  record {
    is = refl;
    among = (0, omega arith, refl);
    first = All-cons (λ other. NotAfter extreme x other) x [] (not_after_self extreme x) (no_others (λ other. NotAfter extreme x other));
  },
)
best_at extreme x (y ∷ ys) =
    let better = is_better extreme in
    let rest = best_at extreme y ys in
    let v : Value = rest.0 in
    let b : Best extreme (y ∷ ys) v = rest.1 in
    elim (cases_Bool (better v x)) [
      | inl hit ↦ (
        v,
        record {
          is = ap (better_of better x) b.is ∙ ap (λ c. cond c (v ∷ []) (x ∷ [])) hit;
          among = (suc b.among.0, omega (arith, b.among.1), b.among.2);
          first = All-cons (λ other. NotAfter extreme v other) x (y ∷ ys) (lt_not_gt (ordered_by extreme v x) (sym (is_better_lt extreme v x) ∙ hit)) b.first;
        },
      )
      | inr miss ↦
          let over : NotAfter extreme x v = turned_not_gt (ordered_by extreme x v) (ordered_by extreme v x) ((ordered_total extreme).antisymm x v) (sym (is_better_lt extreme v x) ∙ miss) in (
            x,
            record {
              is = ap (better_of better x) b.is ∙ ap (λ c. cond c (v ∷ []) (x ∷ [])) miss;
              among = (0, omega arith, refl);
              first = All-cons (λ other. NotAfter extreme x other) x (y ∷ ys) (not_after_self extreme x) (λ k d inside. upto (ordered_total extreme) x v (get_or (y ∷ ys) k d) over (b.first k d inside));
            },
          )
    ]

-- and only one
only_best : (extreme : Extreme) (values : List Value) (v w : Value) → Contains values v → All (λ other. NotAfter extreme v other) values → Contains values w → All (λ other. NotAfter extreme w other) values → v ≡ w
only_best extreme values v w v_among v_first w_among w_first =
    let one : NotAfter extreme v w = subst (NotAfter extreme v) w_among.2 (v_first w_among.0 w w_among.1) in
    let other : NotAfter extreme w v = subst (NotAfter extreme w) v_among.2 (w_first v_among.0 v v_among.1) in
    exact_by extreme v w (tie_equal (ordered_by extreme v w) (ordered_by extreme w v) ((ordered_total extreme).antisymm v w) one other)

one_item : (ty : Ty) (best : List Value) (v : Value) → best ≡ v ∷ [] → flat_map (item_bytes ty) best ≡ item_bytes ty v
one_item ty best v is = ap (flat_map (item_bytes ty)) is ∙ append-nil (item_bytes ty v)

-- the items of the places that were found
pub minmax_built : (ty : Ty) (values : List Value) (least greatest : ℕ) (d e : Value) → least < length values → greatest < length values
    → values_at least values ≡ best_of (is_better Least) values → values_at greatest values ≡ best_of (is_better Greatest) values
    → item_bytes ty (get_or values least d) ++ item_bytes ty (get_or values greatest e) ≡ minmax_bytes ty values
minmax_built ty values least greatest d e in_l in_g l g =
    sym (ap (λ bytes. bytes ++ item_bytes ty (get_or values greatest e)) (one_item ty (best_of (is_better Least) values) (get_or values least d) (sym l ∙ value_alone least values d in_l)))
    ∙ sym (ap (λ bytes. flat_map (item_bytes ty) (best_of (is_better Least) values) ++ bytes) (one_item ty (best_of (is_better Greatest) values) (get_or values greatest e) (sym g ∙ value_alone greatest values e in_g)))

-- the writer's minmax entry is the one of the values, and the only one
pub minmax_is : (ty : Ty) (values : List Value) (bytes : List ℕ) → 0 < length values → (bytes ≡ minmax_bytes ty values) ↔ IsMinmaxOf ty values bytes
minmax_is ty [] bytes some = absurd (omega (arith, some))
minmax_is ty (x ∷ xs) bytes some =
    let values = x ∷ xs in
    let least = best_at Least x xs in
    let greatest = best_at Greatest x xs in
    let l : Best Least values least.0 = least.1 in
    let g : Best Greatest values greatest.0 = greatest.1 in
    let written : minmax_bytes ty values ≡ item_bytes ty least.0 ++ item_bytes ty greatest.0 =
    ap (λ b. b ++ flat_map (item_bytes ty) (best_of (is_better Greatest) values)) (one_item ty (best_of (is_better Least) values) least.0 l.is)
    ∙ ap (λ b. item_bytes ty least.0 ++ b) (one_item ty (best_of (is_better Greatest) values) greatest.0 g.is) in (
      λ e. (
        least.0,
        greatest.0,
        record { among = l.among; least = λ k d inside. le_from_not_gt (value_cmp least.0 (get_or values k d)) (l.first k d inside) },
        record { among = g.among; greatest = λ k d inside. le_from_not_gt (value_cmp (get_or values k d) greatest.0) (g.first k d inside) },
        e ∙ written,
      ),
      λ m.
          let low : m.0 ≡ least.0 = only_best Least values m.0 least.0 m.2.among (λ k d inside. not_gt_from_le (value_cmp m.0 (get_or values k d)) (m.2.least k d inside)) l.among l.first in
          let high : m.1 ≡ greatest.0 = only_best Greatest values m.1 greatest.0 m.3.among (λ k d inside. not_gt_from_le (value_cmp (get_or values k d) m.1) (m.3.greatest k d inside)) g.among g.first in
          m.4 ∙ ap (λ v. item_bytes ty v ++ item_bytes ty m.1) low ∙ ap (λ v. item_bytes ty least.0 ++ item_bytes ty v) high ∙ sym written,
    )
