-- The least and the greatest of some values.
use Rattle.std.proofs.Common.{◌≡◌, ℕ, suc, ◌+◌, ◌<◌, Bool, true, false, cond, List, [], ◌∷◌, ◌++◌, length, take, map, get_or, refl, sym, ap, ◌∙◌, subst, arith}
use Rattle.std.specs.Prelude.{All, Contains}
use Rattle.std.specs.declared.cmp.Ordering.{Ordering}
use Rattle.std.specs.declared.cmp.Ordering.TheVariants.{Less, Equal, Greater}
use Rattle.std.specs.Ordering.{is_lt, is_le, ordering_reverse}
use Rattle.std.specs.Cmp.{tied_itself}
use Rattle.std.proofs.lemmas.List.{take_more, map-append}
use Rattle.std.proofs.lemmas.List.Elements.{All-nil, All-cons, All-weaker, All-contains, All-tail}
use Rattle.mt_facts.proofs.Orderings.{less_from}
use Rattle.mt_types.specs.declared.value.Value.{Value}
use Rattle.mt_types.specs.Order.{value_cmp}
use Rattle.mt_types.specs.Ordered.{value_total}
use Rattle.mt_types.specs.Ties.{exact_values}
use Rattle.mt_defs.specs.Rows.{Row}
use Rattle.mt_defs.specs.Partition.{IsLeast, IsGreatest}
use Rattle.mt_defs.specs.WrittenPartition.{better_of, best_of}
use Rattle.mt_meta.specs.Minmax.{is_less, is_greater, least_of, greatest_of}

-- ---- an order's tests

-- a strict order that is total up to values that tie
pub record IsStrict (better : Value → Value → Bool) : Type 0 where
  pub trans : (a b c : Value) → better a b ≡ true → better b c ≡ true → better a c ≡ true
  pub skip : (a b c : Value) → better a b ≡ false → better b c ≡ false → better a c ≡ false
  pub itself : (a : Value) → better a a ≡ false

less_trans : (a b c : Value) → is_less a b ≡ true → is_less b c ≡ true → is_less a c ≡ true
less_trans a b c e f = ap is_lt (value_total.trans a b c (less_from (value_cmp a b) e) (less_from (value_cmp b c) f))

skip_by : (a b c : Value) (o p : Ordering) → value_cmp a b ≡ o → value_cmp b c ≡ p → is_lt o ≡ false → is_lt p ≡ false → is_less a c ≡ false
skip_by a b c Less p ea eb na nb = cc
skip_by a b c Equal p ea eb na nb = ap (λ v. is_lt (value_cmp v c)) (exact_values a b ea) ∙ ap is_lt eb ∙ nb
skip_by a b c Greater Less ea eb na nb = cc
skip_by a b c Greater Equal ea eb na nb = ap (λ v. is_lt (value_cmp a v)) (sym (exact_values b c eb)) ∙ ap is_lt ea
skip_by a b c Greater Greater ea eb na nb =
    let down : value_cmp c a ≡ Less = value_total.trans c b a (value_total.antisymm c b ∙ ap ordering_reverse eb) (value_total.antisymm b a ∙ ap ordering_reverse ea) in
    ap is_lt (value_total.antisymm a c ∙ ap ordering_reverse down)

pub strict_less : IsStrict is_less
strict_less = record {
  trans = less_trans;
  skip = λ a b c e f. skip_by a b c (value_cmp a b) (value_cmp b c) refl refl e f;
  itself = λ a. ap is_lt (tied_itself value_total a);
}

pub strict_greater : IsStrict is_greater
strict_greater = record {
  trans = λ a b c e f. less_trans c b a f e;
  skip = λ a b c e f. skip_by c b a (value_cmp c b) (value_cmp b a) refl refl f e;
  itself = λ a. ap is_lt (tied_itself value_total a);
}

-- ---- the best of some values

-- the first value where it is better, else the second
abbrev pub pick : (Value → Value → Bool) → Value → Value → Value
pick better v w = cond (better v w) v w

picked_by : (b : Bool) (x c : Value) → (let one : List Value = c ∷ [] in cond b one (x ∷ [])) ≡ cond b c x ∷ []
picked_by true x c = refl
picked_by false x c = refl

picked : (better : Value → Value → Bool) (x c : Value) → better_of better x (c ∷ []) ≡ pick better c x ∷ []
picked better x c = picked_by (better c x) x c

pub best_some : (better : Value → Value → Bool) (x : Value) (xs : List Value) → (b : Value) × (best_of better (x ∷ xs) ≡ b ∷ [])
best_some better x [] = (x, refl)
best_some better x (y ∷ ys) =
    let rest = best_some better y ys in
    (pick better rest.0 x, ap (better_of better x) rest.1 ∙ picked better x rest.0)

-- of three values, whichever two are compared first
pick_by : (better : Value → Value → Bool) → IsStrict better → (v c x : Value) (p q : Bool) → better c x ≡ p → better v c ≡ q → pick better v (cond p c x) ≡ pick better (cond q v c) x
pick_by better s v c x true true e f = rw (f, s.trans v c x f e) refl
pick_by better s v c x true false e f = rw (f, e) refl
pick_by better s v c x false true e f = refl
pick_by better s v c x false false e f = rw (e, s.skip v c x f e) refl

only_one : (x b : Value) → (let one : List Value = x ∷ [] in one ≡ b ∷ []) → x ≡ b
only_one x b e = cc

-- one more value at the end
pub best_more : (better : Value → Value → Bool) → IsStrict better → (xs : List Value) (v b : Value) → best_of better xs ≡ b ∷ [] → best_of better (xs ++ v ∷ []) ≡ pick better v b ∷ []
best_more better s [] v b e = cc
best_more better s (x ∷ []) v b e = picked better x v ∙ ap (λ w. pick better v w ∷ []) (only_one x b e)
best_more better s (x ∷ y ∷ ys) v b e =
    let rest = best_some better y ys in
    let is : pick better rest.0 x ≡ b = only_one (pick better rest.0 x) b (sym (picked better x rest.0) ∙ sym (ap (better_of better x) rest.1) ∙ e) in
    ap (better_of better x) (best_more better s (y ∷ ys) v rest.0 rest.1) ∙ picked better x (pick better v rest.0)
    ∙ ap (λ w. w ∷ []) (sym (pick_by better s v rest.0 x (better rest.0 x) (better v rest.0) refl refl)) ∙ ap (λ w. pick better v w ∷ []) is

-- ---- the walk over rows

pub best_start : (better : Value → Value → Bool) (f : Row → Value) (rows others : List Row) (first : Row) (best : Value) → rows ≡ first ∷ others → best ≡ f first → best_of better (map f (take (0 + 1) rows)) ≡ best ∷ []
best_start better f rows others first best e is = ap (λ l. best_of better (map f (take 1 l))) e ∙ ap (λ v. v ∷ []) (sym is)

pub best_step : (better : Value → Value → Bool) → IsStrict better → (f : Row → Value) (rows others : List Row) (first row d : Row) (i : ℕ) (best next : Value) → rows ≡ first ∷ others → i < length others → row ≡ get_or others i d
    → next ≡ pick better (f row) best → best_of better (map f (take (i + 1) rows)) ≡ best ∷ [] → best_of better (map f (take (i + 1 + 1) rows)) ≡ next ∷ []
best_step better s f rows others first row d i best next e lt at is before =
    let inside : i + 1 < length rows = omega (arith, ap length e) in
    let here : get_or rows (i + 1) d ≡ row = ap (λ l. get_or l (i + 1) d) e ∙ (let one : i + 1 ≡ suc i = omega arith in rw one refl) ∙ sym at in
    ap (λ l. best_of better (map f l)) (take_more rows (i + 1) d inside ∙ ap (λ r. take (i + 1) rows ++ r ∷ []) here)
    ∙ ap (best_of better) (map-append f (take (i + 1) rows) (row ∷ []))
    ∙ best_more better s (map f (take (i + 1) rows)) (f row) best before ∙ ap (λ v. v ∷ []) (sym is)

-- a later row has the column too
pub rest_has : (column_index : ℕ) (rows others : List Row) (first row : Row) (i : ℕ) → rows ≡ first ∷ others → All (λ row. column_index < length row) rows → i < length others → row ≡ get_or others i row → column_index < length row
rest_has column_index rows others first row i e has lt at =
    let rest = All-tail (λ (row : Row). column_index < length row) first others (subst (All (λ (row : Row). column_index < length row)) e has) in
    subst (λ (row : Row). column_index < length row) (sym at) (rest i row lt)

-- ---- what the best is

-- a value that none of some values is better than
pub record IsBest (better : Value → Value → Bool) (values : List Value) (value : Value) : Type 0 where
  pub among : Contains values value
  pub none : All (λ other. better other value ≡ false) values

later : (x v : Value) (xs : List Value) → Contains xs v → Contains (x ∷ xs) v
later x v xs (k, lt, is) = (suc k, omega arith, is)

not_both : (better : Value → Value → Bool) → IsStrict better → (x c : Value) (b : Bool) → better x c ≡ b → better c x ≡ true → better x c ≡ false
not_both better s x c false e f = e
not_both better s x c true e f = absurd (let this = s.trans x c x e f in let that = s.itself x in cc)

best_by : (better : Value → Value → Bool) → IsStrict better → (x c : Value) (xs : List Value) (p : Bool) → better c x ≡ p → IsBest better xs c → IsBest better (x ∷ xs) (cond p c x)
best_by better s x c xs true e h = record { among = later x c xs h.among; none = All-cons (λ other. better other c ≡ false) x xs (not_both better s x c (better x c) refl e) h.none }
best_by better s x c xs false e h = record {
  among = (0, omega arith, refl);
  none = All-cons (λ other. better other x ≡ false) x xs (s.itself x) (All-weaker (λ other. better other c ≡ false) (λ other. better other x ≡ false) (λ other f. s.skip other c x f e) xs h.none);
}

pub best_is : (better : Value → Value → Bool) → IsStrict better → (xs : List Value) (b : Value) → best_of better xs ≡ b ∷ [] → IsBest better xs b
best_is better s [] b e = cc
best_is better s (x ∷ []) b e =
    let is = only_one x b e in
    subst (IsBest better (x ∷ [])) is (record { among = (0, omega arith, refl); none = All-cons (λ other. better other x ≡ false) x [] (s.itself x) (All-nil (λ other. better other x ≡ false)) })
best_is better s (x ∷ y ∷ ys) b e =
    let rest = best_some better y ys in
    let is : pick better rest.0 x ≡ b = only_one (pick better rest.0 x) b (sym (picked better x rest.0) ∙ sym (ap (better_of better x) rest.1) ∙ e) in
    subst (IsBest better (x ∷ y ∷ ys)) is (best_by better s x rest.0 (y ∷ ys) (better rest.0 x) refl (best_is better s (y ∷ ys) rest.0 rest.1))

-- ---- the least and the greatest

turned : (o p : Ordering) → p ≡ ordering_reverse o → is_lt o ≡ false → is_le p ≡ true
turned Less p e h = cc
turned Equal p e h = ap is_le e
turned Greater p e h = ap is_le e

pub least_is : (xs : List Value) (b : Value) → least_of xs ≡ b ∷ [] → IsLeast xs b
least_is xs b e =
    let h = best_is is_less strict_less xs b e in
    record {
      among = h.among;
      least = All-weaker (λ other. is_less other b ≡ false) (λ other. is_le (value_cmp b other) ≡ true) (λ other f. turned (value_cmp other b) (value_cmp b other) (value_total.antisymm b other) f) xs h.none;
    }

pub greatest_is : (xs : List Value) (b : Value) → greatest_of xs ≡ b ∷ [] → IsGreatest xs b
greatest_is xs b e =
    let h = best_is is_greater strict_greater xs b e in
    record {
      among = h.among;
      greatest = All-weaker (λ other. is_greater other b ≡ false) (λ other. is_le (value_cmp other b) ≡ true) (λ other f. turned (value_cmp b other) (value_cmp other b) (value_total.antisymm other b) f) xs h.none;
    }

-- two values, neither above the other, are one
tied : (a b : Value) (o p : Ordering) → value_cmp a b ≡ o → value_cmp b a ≡ p → p ≡ ordering_reverse o → is_le o ≡ true → is_le p ≡ true → a ≡ b
tied a b Less p ea eb e f g = cc
tied a b Equal p ea eb e f g = exact_values a b ea
tied a b Greater p ea eb e f g = cc

same_by : (a b : Value) → is_le (value_cmp a b) ≡ true → is_le (value_cmp b a) ≡ true → a ≡ b
same_by a b f g = tied a b (value_cmp a b) (value_cmp b a) refl refl (value_total.antisymm b a) f g

pub least_same : (xs : List Value) (a b : Value) → IsLeast xs a → IsLeast xs b → a ≡ b
least_same xs a b h k =
    same_by a b (All-contains (λ other. is_le (value_cmp a other) ≡ true) xs b h.least k.among) (All-contains (λ other. is_le (value_cmp b other) ≡ true) xs a k.least h.among)

pub greatest_same : (xs : List Value) (a b : Value) → IsGreatest xs a → IsGreatest xs b → a ≡ b
greatest_same xs a b h k =
    same_by a b (All-contains (λ other. is_le (value_cmp other b) ≡ true) xs a k.greatest h.among) (All-contains (λ other. is_le (value_cmp other a) ≡ true) xs b h.greatest k.among)
