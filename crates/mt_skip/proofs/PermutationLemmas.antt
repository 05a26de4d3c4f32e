-- Values that are listed once each, and all of the others, are these in another order.
use Rattle.std.proofs.Common.{◌≡◌, ℕ, zero, suc, ◌<◌, ◌≤◌, ◌↔◌, Bool, true, false, cond, not, ◌&&◌, ◌||◌, List, [], ◌∷◌, ◌++◌, length, map, refl, ap, sym, ◌∙◌, subst, inl, inr, arith, get_or}
use Rattle.std.specs.Bool.{Decides}
use Rattle.std.specs.Prelude.{◌≢◌, filter, nat_le, AllPairs, IsTrue, IsPermutation, Contains}
use Rattle.std.specs.List.{list_any, list_all, flat_map, IsDistinct, AllByRecursion}
use Rattle.std.proofs.lemmas.Bool.{cases_Bool, leb-true, le-leb, and_parts, or_right}
use Rattle.std.proofs.lemmas.List.{length-map}
use Rattle.std.proofs.lemmas.List.Concat.{flat_map-cons}
use Rattle.std.proofs.lemmas.List.Folds.{list_any-append}
use Rattle.std.proofs.lemmas.List.Sorted.{IsPermutation-refl, IsPermutation-cons, IsPermutation-trans, IsPermutation-middle, IsPermutation-sym, length_permutation, Contains-permutation}
use Rattle.std.proofs.lemmas.Map.Made.{AllPairs-from_IsDistinct, IsDistinct-from_AllPairs}
use Rattle.std.proofs.lemmas.Map.Keys.{IsDistinct-cons, IsDistinct-head, IsDistinct-tail, IsDistinct-IsPermutation}
use Rattle.mt_facts.proofs.Lists.{any_map, filter_drops, filter_keeps}
use Rattle.mt_facts.proofs.Truth.{never_both, or_false}
use Rattle.mt_types.specs.declared.value.Value.{Value}
use Rattle.mt_defs.specs.Lists.{insertions, orders_of}
use Rattle.mt_defs.specs.SkipIndexes.{distinct_values}
use Rattle.mt_skip.specs.declared.seen.Seen.{Seen}
use Rattle.mt_skip.specs.Gathering.{is_same, has_each, values_in}
use Rattle.mt_skip.proofs.DistinctLemmas.{same_values, one_value, is_other}

-- none of the values is this one
abbrev NoneIs : Value → List Value → Type 0
NoneIs x xs = AllByRecursion (λ y. is_same x y ≡ false) xs

-- ---- distinct values are distinct

fewer : (p : Value → Bool) (x : Value) (xs : List Value) → NoneIs x xs → NoneIs x (filter p xs)
fewer p x [] all = tt
fewer p x (y ∷ ys) all =
    elim (p y) as (λ b. NoneIs x (cond b (y ∷ filter p ys) (filter p ys))) [
      | true ↦ (all.0, fewer p x ys all.1)
      | false ↦ fewer p x ys all.1
    ]

dropped_by : (x y : Value) (ys : List Value) (b : Bool) → is_same x y ≡ b → NoneIs x (filter (is_other x) ys) → NoneIs x (cond (not b) (y ∷ filter (is_other x) ys) (filter (is_other x) ys))
dropped_by x y ys true is rest = rest
dropped_by x y ys false is rest = (is, rest)

dropped : (x : Value) (xs : List Value) → NoneIs x (filter (is_other x) xs)
dropped x [] = tt
dropped x (y ∷ ys) = dropped_by x y ys (is_same x y) refl (dropped x ys)

kept_distinct : (p : Value → Bool) (xs : List Value) → IsDistinct is_same xs → IsDistinct is_same (filter p xs)
kept_distinct p [] d = d
kept_distinct p (x ∷ xs) d =
    let rest = kept_distinct p xs (IsDistinct-tail is_same x xs d) in
    elim (p x) as (λ b. IsDistinct is_same (cond b (x ∷ filter p xs) (filter p xs))) [
      | true ↦ IsDistinct-cons is_same x (filter p xs) (fewer p x xs (IsDistinct-head is_same x xs d)) rest
      | false ↦ rest
    ]

none_distinct : IsDistinct is_same []
unfolding IsDistinct
none_distinct = tt

pub are_distinct : (xs : List Value) → IsDistinct is_same (distinct_values xs)
are_distinct [] = none_distinct
are_distinct (x ∷ xs) = IsDistinct-cons is_same x (filter (is_other x) (distinct_values xs)) (dropped x (distinct_values xs)) (kept_distinct (is_other x) (distinct_values xs) (are_distinct xs))

all_kept : (x : Value) (xs : List Value) → NoneIs x xs → filter (is_other x) xs ≡ xs
all_kept x [] all = refl
all_kept x (y ∷ ys) all = filter_keeps (is_other x) y ys (ap not all.0) ∙ ap (λ l. y ∷ l) (all_kept x ys all.1)

-- values that are distinct are their distinct values
pub distinct_already : (xs : List Value) → IsDistinct is_same xs → distinct_values xs ≡ xs
distinct_already [] d = refl
distinct_already (x ∷ xs) d = ap (λ l. x ∷ filter (is_other x) l) (distinct_already xs (IsDistinct-tail is_same x xs d)) ∙ ap (λ l. x ∷ l) (all_kept x xs (IsDistinct-head is_same x xs d))

-- ---- as many distinct values as there are

pub filter_short : (p : Value → Bool) (xs : List Value) → length (filter p xs) ≤ length xs
filter_short p [] = omega arith
filter_short p (x ∷ xs) =
    let rest = filter_short p xs in
    elim (p x) as (λ b. length (cond b (x ∷ filter p xs) (filter p xs)) ≤ suc (length xs)) [
      | true ↦ omega (arith, rest)
      | false ↦ omega (arith, rest)
    ]

full : (x : Value) (xs : List Value) → length xs ≤ length (filter (is_other x) xs) → NoneIs x xs
full x [] long = tt
full x (y ∷ ys) long =
    let short = filter_short (is_other x) ys in
    elim (cases_Bool (is_same x y)) [
      | inl same ↦ let less = ap length (filter_drops (is_other x) y ys (ap not same)) in absurd (omega (arith, long, short, less))
      | inr other ↦ let more = ap length (filter_keeps (is_other x) y ys (ap not other)) in (other, full x ys (omega (arith, long, more)))
    ]

pub distinct_from_length : (xs : List Value) → length xs ≤ length (distinct_values xs) → IsDistinct is_same xs
distinct_from_length [] long = none_distinct
distinct_from_length (x ∷ xs) long =
    let short = filter_short (is_other x) (distinct_values xs) in
    let rest = distinct_from_length xs (omega (arith, long, short)) in
    let same : length (filter (is_other x) (distinct_values xs)) ≡ length (filter (is_other x) xs) = ap (λ l. length (filter (is_other x) l)) (distinct_already xs rest) in
    IsDistinct-cons is_same x xs (full x xs (omega (arith, long, same))) rest

-- there are no more distinct values than values
pub distinct_fewer : (values : List Value) → length (distinct_values values) ≤ length values
distinct_fewer [] = omega arith
distinct_fewer (v ∷ vs) = let rest = distinct_fewer vs in let less = filter_short (is_other v) (distinct_values vs) in omega (arith, rest, less)

-- the same value is an equal one
pub same_decides : (a b : Value) → Decides (is_same a b) (a ≡ b)
same_decides a b = (one_value a b, λ e. subst (λ c. is_same a c ≡ true) e (same_values.refl a))

-- as many distinct values as there are, exactly where no value is listed twice
pub as_many : (values : List Value) (count : ℕ) → count ≡ length (distinct_values values) → IsTrue (nat_le (length values) count) ↔ AllPairs (λ a b. a ≢ b) values
as_many values count is = (
  λ e. AllPairs-from_IsDistinct same_decides values (distinct_from_length values (let le = leb-true (length values) count e in omega (arith, le, is))),
  λ differ.
      let same : distinct_values values ≡ values = distinct_already values (IsDistinct-from_AllPairs same_decides values differ) in
      le-leb (length values) count (let long = ap length same in omega (arith, long, is)),
)

pub as_long : (keys : List Seen) (values : List Value) → values_in keys ≡ distinct_values values → IsTrue (nat_le (length values) (length keys)) ↔ AllPairs (λ a b. a ≢ b) values
as_long keys values is = as_many values (length keys) (sym (length-map keys (λ (key : Seen). key.value.now)) ∙ ap length is)

-- ---- among

pub contains_from : (w : Value) (xs : List Value) → list_any (is_same w) xs ≡ true → Contains xs w
contains_from w [] there = cc
contains_from w (x ∷ xs) there =
    elim (cases_Bool (is_same w x)) [
      | inl same ↦ (0, omega arith, sym (one_value w x same))
      | inr other ↦
          let rest = contains_from w xs (ap (λ b. b || list_any (is_same w) xs) (sym other) ∙ there) in
          (suc rest.0, omega (arith, rest.1), rest.2)
    ]

pub any_at : (w : Value) (xs : List Value) (k : ℕ) → k < length xs → get_or xs k w ≡ w → list_any (is_same w) xs ≡ true
any_at w [] k inside is = absurd (omega (arith, inside))
any_at w (x ∷ xs) zero inside is = ap (λ b. b || list_any (is_same w) xs) (ap (is_same w) is ∙ same_values.refl w)
any_at w (x ∷ xs) (suc k) inside is = or_right (is_same w x) (list_any (is_same w) xs) (any_at w xs k (omega (arith, inside)) is)

pub any_permuted : (w : Value) (xs ys : List Value) → IsPermutation xs ys → list_any (is_same w) xs ≡ true → list_any (is_same w) ys ≡ true
any_permuted w xs ys p there = let at = Contains-permutation xs ys w p (contains_from w xs there) in any_at w ys at.0 at.1 at.2

none_among : (x : Value) (xs : List Value) → NoneIs x xs → list_any (is_same x) xs ≡ false
none_among x [] all = refl
none_among x (y ∷ ys) all = ap (λ b. b || list_any (is_same x) ys) all.0 ∙ none_among x ys all.1

any_filter : (p q : Value → Bool) (xs : List Value) → list_any p (filter q xs) ≡ true → list_any p xs ≡ true
any_filter p q [] there = there
any_filter p q (x ∷ xs) there =
    elim (cases_Bool (p x)) [
      | inl hit ↦ ap (λ b. b || list_any p xs) hit
      | inr miss ↦
          ap (λ b. b || list_any p xs) miss
          ∙ elim (cases_Bool (q x)) [
            | inl kept ↦ any_filter p q xs (ap (λ b. b || list_any p (filter q xs)) (sym miss) ∙ sym (ap (list_any p) (filter_keeps q x xs kept)) ∙ there)
            | inr gone ↦ any_filter p q xs (sym (ap (list_any p) (filter_drops q x xs gone)) ∙ there)
          ]
    ]

-- a distinct value is among the values
pub any_from_distinct : (v : Value) (xs : List Value) → list_any (is_same v) (distinct_values xs) ≡ true → list_any (is_same v) xs ≡ true
any_from_distinct v [] there = there
any_from_distinct v (x ∷ xs) there =
    elim (cases_Bool (is_same v x)) [
      | inl same ↦ ap (λ b. b || list_any (is_same v) xs) same
      | inr other ↦
          let p = is_same v in
          let behind : list_any p (filter (is_other x) (distinct_values xs)) ≡ true = ap (λ b. b || list_any p (filter (is_other x) (distinct_values xs))) (sym other) ∙ there in
          ap (λ b. b || list_any p xs) other ∙ any_from_distinct v xs (any_filter p (is_other x) (distinct_values xs) behind)
    ]

kept_any : (v x : Value) (xs : List Value) → is_same v x ≡ false → list_any (is_same v) xs ≡ true → list_any (is_same v) (filter (is_other x) xs) ≡ true
kept_any v x [] apart there = there
kept_any v x (y ∷ ys) apart there =
    elim (cases_Bool (is_same v y)) [
      | inl same ↦
          let other : is_other x y ≡ true = ap not (ap (is_same x) (sym (one_value v y same)) ∙ same_values.symm x v ∙ apart) in
          ap (list_any (is_same v)) (filter_keeps (is_other x) y ys other) ∙ ap (λ b. b || list_any (is_same v) (filter (is_other x) ys)) same
      | inr miss ↦
          let rest = kept_any v x ys apart (ap (λ b. b || list_any (is_same v) ys) (sym miss) ∙ there) in
          elim (cases_Bool (is_other x y)) [
            | inl kept ↦ ap (list_any (is_same v)) (filter_keeps (is_other x) y ys kept) ∙ or_right (is_same v y) (list_any (is_same v) (filter (is_other x) ys)) rest
            | inr gone ↦ ap (list_any (is_same v)) (filter_drops (is_other x) y ys gone) ∙ rest
          ]
    ]

-- and the values are among the distinct ones
pub any_distinct : (v : Value) (xs : List Value) → list_any (is_same v) xs ≡ true → list_any (is_same v) (distinct_values xs) ≡ true
any_distinct v [] there = there
any_distinct v (x ∷ xs) there =
    elim (cases_Bool (is_same v x)) [
      | inl same ↦ ap (λ b. b || list_any (is_same v) (filter (is_other x) (distinct_values xs))) same
      | inr other ↦
          let behind = any_distinct v xs (ap (λ b. b || list_any (is_same v) xs) (sym other) ∙ there) in
          or_right (is_same v x) (list_any (is_same v) (filter (is_other x) (distinct_values xs))) (kept_any v x (distinct_values xs) other behind)
    ]

-- ---- permutations

record Split (x : Value) (xs : List Value) : Type 0 where
  front : List Value
  back : List Value
  is : xs ≡ front ++ x ∷ back

split : (x : Value) (xs : List Value) → list_any (is_same x) xs ≡ true → Split x xs
split x [] there = cc
split x (y ∷ ys) there =
    elim (cases_Bool (is_same x y)) [
      | inl same ↦ record { front = []; back = ys; is = ap (λ v. v ∷ ys) (sym (one_value x y same)) }
      | inr other ↦
          let s = split x ys (ap (λ b. b || list_any (is_same x) ys) (sym other) ∙ there) in
          record { front = y ∷ s.front; back = s.back; is = ap (λ l. y ∷ l) s.is }
    ]

past : (v x : Value) (front back : List Value) → is_same v x ≡ false → list_any (is_same v) (front ++ x ∷ back) ≡ list_any (is_same v) (front ++ back)
past v x front back apart =
    list_any-append (is_same v) front (x ∷ back) ∙ ap (λ b. list_any (is_same v) front || (b || list_any (is_same v) back)) apart ∙ sym (list_any-append (is_same v) front back)

-- a list with each of some distinct values has the first of them, and the others around it
record Taken (x : Value) (xs ys : List Value) : Type 0 where
  front : List Value
  back : List Value
  is : front ++ x ∷ back ≡ ys
  once : IsDistinct is_same (front ++ back)
  long : length (front ++ back) ≡ length xs
  each : (v : Value) → list_any (is_same v) xs ≡ true → list_any (is_same v) (front ++ back) ≡ true

turned : {X : Type 0} (x : X) (front back : List X) → IsPermutation (x ∷ (front ++ back)) (front ++ x ∷ back)
turned x front back = IsPermutation-sym (front ++ x ∷ back) (x ∷ (front ++ back)) (IsPermutation-middle front x back)

taken : (x : Value) (xs ys : List Value) → IsDistinct is_same (x ∷ xs) → IsDistinct is_same ys → length ys ≡ length (x ∷ xs) → ((v : Value) → list_any (is_same v) (x ∷ xs) ≡ true → list_any (is_same v) ys ≡ true)
    → Taken x xs ys
taken x xs ys c d long each =
    let s = split x ys (each x (ap (λ b. b || list_any (is_same x) xs) (same_values.refl x))) in
    let rest : List Value = s.front ++ s.back in
    let moved : IsPermutation ys (x ∷ rest) = subst (λ l. IsPermutation l (x ∷ rest)) (sym s.is) (IsPermutation-middle s.front x s.back) in
    let size = length_permutation ys (x ∷ rest) moved in
    record {
      front = s.front;
      back = s.back;
      is = sym s.is;
      once = IsDistinct-tail is_same x rest (IsDistinct-IsPermutation is_same same_values.symm ys (x ∷ rest) moved d);
      long = omega (arith, long, size);
      each = λ v there. elim (cases_Bool (is_same v x)) [
        | inl same ↦
            never_both (list_any (is_same x) xs) (ap (λ w. list_any (is_same w) xs) (sym (one_value v x same)) ∙ there) (none_among x xs (IsDistinct-head is_same x xs c))
        | inr other ↦ sym (past v x s.front s.back other) ∙ sym (ap (list_any (is_same v)) s.is) ∙ each v (or_right (is_same v x) (list_any (is_same v) xs) there)
      ];
    }

-- distinct lists of one length, of which one has each of the other
pub matched : (xs ys : List Value) → IsDistinct is_same xs → IsDistinct is_same ys → length ys ≡ length xs → ((v : Value) → list_any (is_same v) xs ≡ true → list_any (is_same v) ys ≡ true) → IsPermutation xs ys
matched [] [] c d long each = IsPermutation-refl []
matched [] (y ∷ ys) c d long each = absurd (omega (arith, long))
matched (x ∷ xs) ys c d long each =
    let t = taken x xs ys c d long each in
    let rest : List Value = t.front ++ t.back in
    let more : IsPermutation xs rest = matched xs rest (IsDistinct-tail is_same x xs c) t.once t.long t.each in
    subst (IsPermutation (x ∷ xs)) t.is (IsPermutation-trans (x ∷ xs) (x ∷ rest) (t.front ++ x ∷ t.back) (IsPermutation-cons x xs rest more) (turned x t.front t.back))

-- ---- all orders of a list

-- where a list passes that has one element put in
record PutIn {X : Type 0} (p : List X → Bool) (x : X) (xs : List X) : Type 0 where
  front : List X
  back : List X
  is : front ++ back ≡ xs
  passes : p (front ++ x ∷ back) ≡ true

any_insertion : {X : Type 0} (p : List X → Bool) (x : X) (xs : List X) → list_any p (insertions x xs) ≡ true → PutIn p x xs
any_insertion p x [] there = record { front = []; back = []; is = refl; passes = sym (or_false (p (x ∷ []))) ∙ there }
any_insertion p x (y ∷ ys) there =
    elim (cases_Bool (p (x ∷ y ∷ ys))) [
      | inl first ↦ record { front = []; back = y ∷ ys; is = refl; passes = first }
      | inr miss ↦
          let later : list_any p (map (λ zs. y ∷ zs) (insertions x ys)) ≡ true = ap (λ b. b || list_any p (map (λ zs. y ∷ zs) (insertions x ys))) (sym miss) ∙ there in
          let rest = any_insertion (λ zs. p (y ∷ zs)) x ys (sym (any_map p (λ zs. y ∷ zs) (insertions x ys)) ∙ later) in
          record { front = y ∷ rest.front; back = rest.back; is = ap (λ l. y ∷ l) rest.is; passes = rest.passes }
    ]

insertion_passes : {X : Type 0} (p : List X → Bool) (x : X) (front back : List X) → p (front ++ x ∷ back) ≡ true → list_any p (insertions x (front ++ back)) ≡ true
insertion_passes p x [] [] passes = or_false (p (x ∷ [])) ∙ passes
insertion_passes p x [] (b ∷ back) passes = ap (λ c. c || list_any p (map (λ zs. b ∷ zs) (insertions x back))) passes
insertion_passes p x (y ∷ front) back passes =
    let rest = insertion_passes (λ zs. p (y ∷ zs)) x front back passes in
    or_right (p (x ∷ y ∷ (front ++ back))) (list_any p (map (λ zs. y ∷ zs) (insertions x (front ++ back)))) (any_map p (λ zs. y ∷ zs) (insertions x (front ++ back)) ∙ rest)

any_flat_map : {X Y : Type 0} (p : Y → Bool) (f : X → List Y) (xs : List X) → list_any p (flat_map f xs) ≡ list_any (λ x. list_any p (f x)) xs
any_flat_map p f [] = refl
any_flat_map p f (x ∷ xs) =
    ap (list_any p) (flat_map-cons f x xs) ∙ list_any-append p (f x) (flat_map f xs) ∙ ap (λ b. list_any p (f x) || b) (any_flat_map p f xs)

-- one of the orders passes
pub any_order : {X : Type 0} (p : List X → Bool) (xs : List X) → list_any p (orders_of xs) ≡ true → (ys : List X) × IsPermutation xs ys × (p ys ≡ true)
any_order p [] there = ([], IsPermutation-refl [], sym (or_false (p [])) ∙ there)
any_order p (x ∷ xs) there =
    let later = any_order (λ zs. list_any p (insertions x zs)) xs (sym (any_flat_map p (insertions x) (orders_of xs)) ∙ there) in
    let put = any_insertion p x later.0 later.2 in
    let moved : IsPermutation xs (put.front ++ put.back) = subst (IsPermutation xs) (sym put.is) later.1 in (
      put.front ++ x ∷ put.back,
      IsPermutation-trans (x ∷ xs) (x ∷ (put.front ++ put.back)) (put.front ++ x ∷ put.back) (IsPermutation-cons x xs (put.front ++ put.back) moved) (turned x put.front put.back),
      put.passes,
    )

order_passes : (p : List Value → Bool) (xs ys : List Value) → IsDistinct is_same xs → IsDistinct is_same ys → length ys ≡ length xs → ((v : Value) → list_any (is_same v) xs ≡ true → list_any (is_same v) ys ≡ true) → p ys ≡ true
    → list_any p (orders_of xs) ≡ true
order_passes p [] [] c d long each passes = or_false (p []) ∙ passes
order_passes p [] (y ∷ ys) c d long each passes = absurd (omega (arith, long))
order_passes p (x ∷ xs) ys c d long each passes =
    let t = taken x xs ys c d long each in
    let around : p (t.front ++ x ∷ t.back) ≡ true = ap p t.is ∙ passes in
    any_flat_map p (insertions x) (orders_of xs)
    ∙ order_passes (λ zs. list_any p (insertions x zs)) xs (t.front ++ t.back) (IsDistinct-tail is_same x xs c) t.once t.long t.each (insertion_passes p x t.front t.back around)

-- a reordering of the distinct values is one of their orders
pub any_of_orders : (p : List Value → Bool) (values ys : List Value) → IsPermutation (distinct_values values) ys → p ys ≡ true → list_any p (orders_of (distinct_values values)) ≡ true
any_of_orders p values ys moved passes =
    let xs = distinct_values values in
    let once = are_distinct values in
    order_passes p xs ys once (IsDistinct-IsPermutation is_same same_values.symm xs ys moved once) (length_permutation xs ys moved) (λ v there. any_permuted v xs ys moved there) passes

-- ---- the test

each_among : (p : Value → Bool) (v : Value) (xs : List Value) → list_all p xs ≡ true → list_any (is_same v) xs ≡ true → p v ≡ true
each_among p v [] all there = cc
each_among p v (x ∷ xs) all there =
    let parts = and_parts (p x) (list_all p xs) all in
    elim (cases_Bool (is_same v x)) [
      | inl same ↦ ap p (one_value v x same) ∙ parts.0
      | inr other ↦ each_among p v xs parts.1 (ap (λ b. b || list_any (is_same v) xs) (sym other) ∙ there)
    ]

all_among : (p : Value → Bool) (xs : List Value) → ((v : Value) → list_any (is_same v) xs ≡ true → p v ≡ true) → list_all p xs ≡ true
all_among p [] each = refl
all_among p (x ∷ xs) each =
    ap (λ b. b && list_all p xs) (each x (ap (λ b. b || list_any (is_same x) xs) (same_values.refl x))) ∙ all_among p xs (λ v there. each v (or_right (is_same v x) (list_any (is_same v) xs) there))

-- a list as long as the distinct values that passes the test has them in some order, and only such a one passes
pub has_each_is : (listed values : List Value) → length listed ≡ length (distinct_values values) → IsTrue (has_each listed values) ↔ IsPermutation (distinct_values values) listed
has_each_is listed values long = (
  λ e.
      let parts = and_parts (nat_le (length listed) (length (distinct_values listed))) (list_all (λ v. list_any (is_same v) (distinct_values listed)) values) e in
      let once : IsDistinct is_same listed = distinct_from_length listed (leb-true (length listed) (length (distinct_values listed)) parts.0) in
      let same : distinct_values listed ≡ listed = distinct_already listed once in
      matched (distinct_values values) listed (are_distinct values) once long
      (λ v there. sym (ap (list_any (is_same v)) same) ∙ each_among (λ w. list_any (is_same w) (distinct_values listed)) v values parts.1 (any_from_distinct v values there)),
  λ p.
      let once : IsDistinct is_same listed = IsDistinct-IsPermutation is_same same_values.symm (distinct_values values) listed p (are_distinct values) in
      let same : distinct_values listed ≡ listed = distinct_already listed once in
      let few : nat_le (length listed) (length (distinct_values listed)) ≡ true = le-leb (length listed) (length (distinct_values listed)) (let e = ap length same in omega (arith, e)) in
      ap (λ b. b && list_all (λ v. list_any (is_same v) (distinct_values listed)) values) few
      ∙ all_among (λ v. list_any (is_same v) (distinct_values listed)) values (λ v there. ap (list_any (is_same v)) same ∙ any_permuted v (distinct_values values) listed p (any_distinct v values there)),
)
