-- Distinct values: one more value, and how many there are.
use Rattle.std.proofs.Common.{◌≡◌, ℕ, zero, suc, ◌+◌, ◌<◌, ◌≤◌, Bool, true, false, cond, not, ◌&&◌, ◌||◌, ◌==◌, List, [], ◌∷◌, ◌++◌, length, map, take, drop, get_or, refl, ap, sym, ◌∙◌, subst, inl, inr, arith, append_assoc, add-one}
use Rattle.std.specs.Prelude.{filter, nat_lt, slice_get, Some}
use Rattle.std.specs.List.{list_any, list_all}
use Rattle.std.specs.Cmp.{IsEquivalence}
use Rattle.std.proofs.Math.Seq.{drop-cons}
use Rattle.std.proofs.lemmas.Bool.{cases_Bool, ltb-true, lt-ltb}
use Rattle.std.proofs.lemmas.Cmp.{eq_by_cmp_equiv}
use Rattle.std.proofs.lemmas.List.{append-nil, length-append, take-append-drop}
use Rattle.std.proofs.lemmas.List.Elements.{filter-append, All-cons, All-filter}
use Rattle.std.proofs.lemmas.Map.Views.{any-filter_same}
use Rattle.indexmap.specs.IndexSet.{insert_key}
use Rattle.mt_facts.proofs.Lists.{any_map, filter_drops, filter_keeps}
use Rattle.mt_facts.proofs.Orderings.{equal_from}
use Rattle.mt_facts.proofs.Truth.{never_both}
use Rattle.mt_types.specs.declared.ty.Ty.{Ty}
use Rattle.mt_types.specs.declared.value.Value.{Value}
use Rattle.mt_types.specs.Fits.{fits_of}
use Rattle.mt_types.specs.Order.{value_cmp}
use Rattle.mt_types.specs.Ordered.{value_total}
use Rattle.mt_types.specs.Ties.{exact_values}
use Rattle.mt_defs.specs.SkipIndexes.{distinct_values, is_too_many}
use Rattle.mt_skip.specs.declared.seen.Seen.{Seen}
use Rattle.mt_skip.specs.Gathering.{is_same, values_in}
use Rattle.mt_skip.specs.Items.{AllFit}
use Rattle.mt_skip.specs.Seen.{is_same_seen}

-- ---- values that tie

pub same_values : IsEquivalence is_same
same_values = eq_by_cmp_equiv value_total

pub one_value : (a b : Value) → is_same a b ≡ true → a ≡ b
one_value a b e = exact_values a b (equal_from (value_cmp a b) e)

-- ---- filters

map_append : {X Y : Type 0} (f : X → Y) (xs ys : List X) → map f (xs ++ ys) ≡ map f xs ++ map f ys
map_append f [] ys = refl
map_append f (x ∷ xs) ys = ap (λ l. f x ∷ l) (map_append f xs ys)

-- ---- one more value

abbrev pub is_other : Value → Value → Bool
is_other y z = not (is_same y z)

-- the distinct values with one more value behind
abbrev with_last : Bool → List Value → Value → List Value
with_last true ds x = ds
with_last false ds x = ds ++ x ∷ []

any_other : (x y : Value) (ds : List Value) → is_same x y ≡ false → list_any (is_same x) (filter (is_other y) ds) ≡ list_any (is_same x) ds
any_other x y ds apart = any-filter_same (is_same x) (is_other y) true (λ z at. ap not (ap (is_same y) (sym (one_value x z at)) ∙ same_values.symm y x ∙ apart)) ds

last_kept : (x y : Value) (ds : List Value) → is_same x y ≡ false → (b : Bool) → filter (is_other y) (with_last b ds x) ≡ with_last b (filter (is_other y) ds) x
last_kept x y ds apart true = refl
last_kept x y ds apart false = filter-append (is_other y) ds (x ∷ []) ∙ ap (λ l. filter (is_other y) ds ++ l) (filter_keeps (is_other y) x [] (ap not (same_values.symm y x ∙ apart)))

last_dropped : (x y : Value) (ds : List Value) → is_same x y ≡ true → (b : Bool) → filter (is_other y) (with_last b ds x) ≡ filter (is_other y) ds
last_dropped x y ds same true = refl
last_dropped x y ds same false =
    filter-append (is_other y) ds (x ∷ []) ∙ ap (λ l. filter (is_other y) ds ++ l) (filter_drops (is_other y) x [] (ap not (same_values.symm y x ∙ same))) ∙ append-nil (filter (is_other y) ds)

moved : (b : Bool) (y : Value) (rest : List Value) (x : Value) → y ∷ with_last b rest x ≡ with_last b (y ∷ rest) x
moved true y rest x = refl
moved false y rest x = refl

-- a value more goes last, unless it was met
pub distinct_more : (xs : List Value) (x : Value) → distinct_values (xs ++ x ∷ []) ≡ with_last (list_any (is_same x) (distinct_values xs)) (distinct_values xs) x
distinct_more [] x = refl
distinct_more (y ∷ ys) x =
    let ds = distinct_values ys in
    let b = list_any (is_same x) ds in
    let rest = filter (is_other y) ds in
    ap (λ l. y ∷ filter (is_other y) l) (distinct_more ys x)
    ∙ elim (cases_Bool (is_same x y)) [
      | inl same ↦ ap (λ l. y ∷ l) (last_dropped x y ds same b) ∙ sym (ap (λ c. with_last (c || list_any (is_same x) rest) (y ∷ rest) x) same)
      | inr apart ↦
          ap (λ l. y ∷ l) (last_kept x y ds apart b) ∙ moved b y rest x ∙ ap (λ c. with_last c (y ∷ rest) x) (sym (any_other x y ds apart)) ∙ sym (ap (λ c. with_last (c || list_any (is_same x) rest) (y ∷ rest) x) apart)
    ]

inserted : (b : Bool) (keys : List Seen) (k : Seen) → values_in (cond b keys (keys ++ k ∷ [])) ≡ with_last b (values_in keys) k.value.now
inserted true keys k = refl
inserted false keys k = map_append (λ (key : Seen). key.value.now) keys (k ∷ [])

-- a set with one more key
pub gather_step : (keys more : List Seen) (k : Seen) (xs : List Value) → more ≡ insert_key is_same_seen keys k → values_in keys ≡ distinct_values xs → values_in more ≡ distinct_values (xs ++ k.value.now ∷ [])
gather_step keys more k xs is so_far =
    let v = k.value.now in
    ap values_in is ∙ inserted (list_any (is_same_seen k) keys) keys k ∙ ap (λ b. with_last b (values_in keys) v) (sym (any_map (is_same v) (λ (key : Seen). key.value.now) keys))
    ∙ ap (λ ds. with_last (list_any (is_same v) ds) ds v) so_far ∙ sym (distinct_more xs v)

-- ---- how many there are

grown : (b : Bool) (ds : List Value) (x : Value) → length ds ≤ length (with_last b ds x)
grown true ds x = omega arith
grown false ds x = omega (arith, length-append ds (x ∷ []))

pub distinct_grow : (xs ys : List Value) → length (distinct_values xs) ≤ length (distinct_values (xs ++ ys))
distinct_grow xs [] = let e = ap (λ l. length (distinct_values l)) (append-nil xs) in omega (arith, e)
distinct_grow xs (y ∷ ys) =
    let one : length (distinct_values xs) ≤ length (distinct_values (xs ++ y ∷ [])) =
    subst (λ l. length (distinct_values xs) ≤ length l) (sym (distinct_more xs y)) (grown (list_any (is_same y) (distinct_values xs)) (distinct_values xs) y) in
    let rest = distinct_grow (xs ++ y ∷ []) ys in
    let e : length (distinct_values (xs ++ y ∷ ys)) ≡ length (distinct_values ((xs ++ y ∷ []) ++ ys)) = ap (λ l. length (distinct_values l)) (sym (append_assoc xs (y ∷ []) ys)) in
    omega (arith, one, rest, e)

-- what is above a limit is so for more
pub above_more : (max few many : ℕ) → few ≤ many → (nat_lt 0 max && nat_lt max few) ≡ true → (nat_lt 0 max && nat_lt max many) ≡ true
above_more max few many le above =
    elim (cases_Bool (nat_lt 0 max)) [
      | inl limited ↦
          let inside : nat_lt max few ≡ true = sym (ap (λ b. b && nat_lt max few) limited) ∙ above in
          let out : max < many = omega (arith, le, ltb-true max few inside) in
          ap (λ b. b && nat_lt max many) limited ∙ lt-ltb max many out
      | inr free ↦ never_both (nat_lt 0 max && nat_lt max few) above (ap (λ b. b && nat_lt max few) free)
    ]

-- too many among the first values are too many
pub too_many_so_far : (max i : ℕ) (values seen : List Value) → seen ≡ distinct_values (take i values) → (nat_lt 0 max && nat_lt max (length seen)) ≡ true → is_too_many max values ≡ true
too_many_so_far max i values seen is above =
    let all : take i values ++ drop i values ≡ values = take-append-drop i values in
    let grows = distinct_grow (take i values) (drop i values) in
    above_more max (length seen) (length (distinct_values values)) (omega (arith, ap length is, grows, ap (λ l. length (distinct_values l)) all)) above

pub nothing_fits : (ty : Ty) → AllFit ty []
nothing_fits ty k d inside = absurd (omega (arith, inside))

-- distinct values of a type are of the type
pub distinct_fit : (ty : Ty) (values : List Value) → AllFit ty values → AllFit ty (distinct_values values)
distinct_fit ty [] all = nothing_fits ty
distinct_fit ty (v ∷ vs) all =
    let P : Value → Type 0 = λ value. fits_of ty value ≡ true in
    All-cons P v (filter (is_other v) (distinct_values vs)) (all 0 v (omega arith)) (All-filter (is_other v) P (distinct_values vs) (distinct_fit ty vs (λ k d inside. all (suc k) d (omega (arith, inside)))))

-- ---- keys and values

-- the value of a key
pub key_at : (keys : List Seen) (i : ℕ) (k : Seen) (d : Value) → slice_get keys i ≡ Some k → (i < length (values_in keys)) × (get_or (values_in keys) i d ≡ k.value.now)
key_at [] i k d e = cc
key_at (key ∷ keys) zero k d e = let same : key ≡ k = cc in (omega arith, ap (λ (x : Seen). x.value.now) same)
key_at (key ∷ keys) (suc i) k d e = let rest = key_at keys i k d e in (omega (arith, rest.0), rest.1)

-- a value that isn't among the keys
pub among_fails : (ks values : List Value) (i : ℕ) (v : Value) → i < length values → v ≡ get_or values i v → list_any (is_same v) ks ≡ false → list_all (λ value. list_any (is_same value) ks) (drop i values) ≡ false
among_fails ks values i v inside is lacks =
    let p : Value → Bool = λ value. list_any (is_same value) ks in
    ap (list_all p) (drop-cons values i v inside) ∙ ap (λ b. b && list_all p (drop (suc i) values)) (ap p (sym is) ∙ lacks)

-- and one that is
pub among_holds : (ks values : List Value) (i : ℕ) (v : Value) → i < length values → v ≡ get_or values i v → list_any (is_same v) ks ≡ true
    → list_all (λ value. list_any (is_same value) ks) (drop (i + 1) values) ≡ list_all (λ value. list_any (is_same value) ks) (drop i values)
among_holds ks values i v inside is has =
    let p : Value → Bool = λ value. list_any (is_same value) ks in
    ap (λ n. list_all p (drop n values)) (add-one i) ∙ sym (ap (λ b. b && list_all p (drop (suc i) values)) (ap p (sym is) ∙ has)) ∙ sym (ap (list_all p) (drop-cons values i v inside))

pub some_listed : (values : List Value) (b : Bool) → b ≡ (length values == 0) → b ≡ false → 0 < length values
some_listed [] b is e = never_both b is e
some_listed (v ∷ vs) b is e = omega arith
