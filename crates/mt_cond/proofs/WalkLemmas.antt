-- Boxes of a cover, column by column and value by value.
use Rattle.std.proofs.Common.{inl, inr, ◌≡◌, ℕ, zero, suc, ◌+◌, ◌-◌, ◌<◌, ◌≤◌, ◌==◌, Bool, true, false, not, ◌||◌, ◌&&◌, List, [], ◌∷◌, ◌++◌, length, drop, get_or, add-one, map, refl, ap, sym, ◌∙◌, arith, Option, Some, None}
use Rattle.std.specs.Prelude.{if◌then◌else◌, ◌⊎◌}
use Rattle.std.specs.List.{list_any}
use Rattle.std.proofs.Math.Seq.{drop-cons}
use Rattle.std.proofs.lemmas.List.{drop_all}
use Rattle.mt_facts.proofs.Lists.{any_map}
use Rattle.mt_types.specs.declared.value.Value.{Value}
use Rattle.mt_cond.specs.declared.types.Interval.{Interval}
use Rattle.mt_cond.specs.declared.types.KeyColumn.{KeyColumn}
use Rattle.mt_query.specs.Truth.{is_same}
use Rattle.mt_cond.specs.Intervals.{interval_at}
use Rattle.mt_cond.specs.Cover.{Spans, sides_of, fronts, opt_span, point, is_void, some_box, from_key, from_span, to_key, to_span, both_span, spans_between, box_may, may_hold_of}
use Rattle.mt_cond.specs.Keys.{types_of}
use Rattle.mt_cond.specs.Masks.{mask_of}
use Rattle.mt_query.specs.declared.cond.Cond.{Cond}
use Rattle.mt_cond.proofs.KeyLemmas.{any_append}

-- the interval that the box has for a column
abbrev pub at_column : List KeyColumn → Spans → ℕ → Option Interval
at_column key is column = interval_at (sides_of key is) column

-- a value that is fixed
pub side_fixed : (key : List KeyColumn) (fixed : List Value) (at i : ℕ) (is : Spans) (column : ℕ) (k : KeyColumn) (v : Value)
    → i < length key → i < length fixed → i < at
    → at_column (drop i key) (fronts (at - i) (drop i fixed) is) column
    ≡ (if (get_or key i k).column == column then Some (point (get_or fixed i v)) else at_column (drop (i + 1) key) (fronts (at - (i + 1)) (drop (i + 1) fixed) is) column)
side_fixed key fixed at i is column k v a b c =
    let one : at - i ≡ suc (at - suc i) = omega arith in
    rw (add-one i, drop-cons key i k a, drop-cons fixed i v b, one) refl

all_fixed : (fixed : List Value) (at i : ℕ) (is : Spans) → (at ≤ i) ⊎ (length fixed ≤ i) → fronts (at - i) (drop i fixed) is ≡ is
all_fixed fixed at i is (inl h) = let none : at - i ≡ zero = omega arith in rw none refl
all_fixed fixed at i is (inr h) = rw (drop_all i fixed h) (by (at - i))
  where
    by : (n : ℕ) → fronts n [] is ≡ is
    by zero = refl
    by (suc n) = refl

abbrev pub nothing : Option Interval
nothing = None

never : (b : Bool) → nothing ≡ (if b then None else None)
never true = refl
never false = refl

last_only : (key : List KeyColumn) (column : ℕ) (last : Option Interval) (k : KeyColumn)
    → at_column (k ∷ key) (opt_span last) column ≡ (if k.column == column then last else None)
last_only key column None k = never (k.column == column)
last_only key column (Some i) k = refl

-- the interval after the values that are fixed
pub side_last : (key : List KeyColumn) (fixed : List Value) (at i : ℕ) (last : Option Interval) (column : ℕ) (k : KeyColumn)
    → i < length key → (at ≤ i) ⊎ (length fixed ≤ i)
    → at_column (drop i key) (fronts (at - i) (drop i fixed) (opt_span last)) column ≡ (if (get_or key i k).column == column then last else None)
side_last key fixed at i last column k a h =
    rw (all_fixed fixed at i (opt_span last) h, drop-cons key i k a) (last_only (drop (suc i) key) column last (get_or key i k))

no_columns : (is : Spans) (column : ℕ) → at_column [] is column ≡ nothing
no_columns [] column = refl
no_columns (i ∷ is) column = refl

pub side_none : (key : List KeyColumn) (is : Spans) (i column : ℕ) → length key ≤ i → nothing ≡ at_column (drop i key) is column
side_none key is i column h = rw (drop_all i key h) (sym (no_columns is column))

-- ---- the walk, value by value

or_none : (b : Bool) → b ≡ (b || false)
or_none true = refl
or_none false = refl

any_box : (f : Spans → Bool) (i : Interval) → list_any f (some_box i) ≡ (not (is_void i) && f (i ∷ []))
any_box f i = by (is_void i)
  where
    by : (b : Bool) → list_any f (if b then [] else (i ∷ []) ∷ []) ≡ (not b && f (i ∷ []))
    by true = refl
    by false = sym (or_none (f (i ∷ [])))

-- one more value in front
pub fronts_more : (n : ℕ) (vs : List Value) (v : Value) (is : Spans) → n < length vs → fronts n vs (point (get_or vs n v) ∷ is) ≡ fronts (suc n) vs is
fronts_more zero [] v is h = absurd (omega arith)
fronts_more zero (u ∷ us) v is h = refl
fronts_more (suc n) [] v is h = absurd (omega arith)
fronts_more (suc n) (u ∷ us) v is h = ap (λ js. point u ∷ js) (fronts_more n us v is (omega arith))

any_same : (f g : Spans → Bool) (xs : List Spans) → ((x : Spans) → f x ≡ g x) → list_any f xs ≡ list_any g xs
any_same f g [] h = refl
any_same f g (x ∷ xs) h = rw (h x, any_same f g xs h) refl

-- from a key on: the box past the value at n, or the boxes from the next value on
pub from_more : (f : Spans → Bool) (key : List KeyColumn) (vs : List Value) (n : ℕ) (k : KeyColumn) (v : Value) → n < length key → n < length vs
    → list_any (λ is. f (fronts n vs is)) (from_key (types_of (drop n key)) (drop n vs))
    ≡ ((not (is_void (from_span (get_or key n k) (get_or vs n v))) && f (fronts n vs (from_span (get_or key n k) (get_or vs n v) ∷ [])))
    || list_any (λ is. f (fronts (n + 1) vs is)) (from_key (types_of (drop (n + 1) key)) (drop (n + 1) vs)))
from_more f key vs n k v a b =
    let i = from_span (get_or key n k) (get_or vs n v) in
    let front : Spans → Spans = λ is. point (get_or vs n v) ∷ is in
    let rest = from_key (types_of (drop (suc n) key)) (drop (suc n) vs) in
    rw (add-one n, drop-cons key n k a, drop-cons vs n v b, any_append (λ is. f (fronts n vs is)) (some_box i) (map front rest), any_box (λ is. f (fronts n vs is)) i, any_map (λ is. f (fronts n vs is)) front rest)
    (ap (λ b. (not (is_void i) && f (fronts n vs (i ∷ []))) || b) (any_same (λ is. f (fronts n vs (front is))) (λ is. f (fronts (suc n) vs is)) rest (λ is. ap f (fronts_more n vs v is b))))

-- at the end: the point
pub from_end : (f : Spans → Bool) (key : List KeyColumn) (vs : List Value) (n : ℕ) → length key ≤ n → length vs ≤ n
    → f (fronts n vs []) ≡ list_any (λ is. f (fronts n vs is)) (from_key (types_of (drop n key)) (drop n vs))
from_end f key vs n a b = rw (drop_all n key a) (or_none (f (fronts n vs [])))

-- up to a key: the box before the value at n, or the boxes from the next value on
pub to_more : (f : Spans → Bool) (key : List KeyColumn) (vs : List Value) (n : ℕ) (k : KeyColumn) (v : Value) → n < length key → n < length vs
    → list_any (λ is. f (fronts n vs is)) (to_key (types_of (drop n key)) (drop n vs))
    ≡ ((not (is_void (to_span (get_or key n k) (get_or vs n v))) && f (fronts n vs (to_span (get_or key n k) (get_or vs n v) ∷ [])))
    || list_any (λ is. f (fronts (n + 1) vs is)) (to_key (types_of (drop (n + 1) key)) (drop (n + 1) vs)))
to_more f key vs n k v a b =
    let i = to_span (get_or key n k) (get_or vs n v) in
    let front : Spans → Spans = λ is. point (get_or vs n v) ∷ is in
    let rest = to_key (types_of (drop (suc n) key)) (drop (suc n) vs) in
    rw (add-one n, drop-cons key n k a, drop-cons vs n v b, any_append (λ is. f (fronts n vs is)) (some_box i) (map front rest), any_box (λ is. f (fronts n vs is)) i, any_map (λ is. f (fronts n vs is)) front rest)
    (ap (λ b. (not (is_void i) && f (fronts n vs (i ∷ []))) || b) (any_same (λ is. f (fronts n vs (front is))) (λ is. f (fronts (suc n) vs is)) rest (λ is. ap f (fronts_more n vs v is b))))

-- at the end: the point
pub to_end : (f : Spans → Bool) (key : List KeyColumn) (vs : List Value) (n : ℕ) → length key ≤ n → length vs ≤ n
    → f (fronts n vs []) ≡ list_any (λ is. f (fronts n vs is)) (to_key (types_of (drop n key)) (drop n vs))
to_end f key vs n a b = rw (drop_all n key a) (or_none (f (fronts n vs [])))

-- ---- between two keys

-- where the values at n tie
pub between_tied : (f : Spans → Bool) (key : List KeyColumn) (ls hs : List Value) (n : ℕ) (k : KeyColumn) (l h : Value) → n < length key → n < length ls → n < length hs
    → is_same (get_or ls n l) (get_or hs n h) ≡ true
    → list_any (λ is. f (fronts n ls is)) (spans_between (types_of (drop n key)) (drop n ls) (drop n hs))
    ≡ list_any (λ is. f (fronts (n + 1) ls is)) (spans_between (types_of (drop (n + 1) key)) (drop (n + 1) ls) (drop (n + 1) hs))
between_tied f key ls hs n k l h a b c tie =
    let front : Spans → Spans = λ is. point (get_or ls n l) ∷ is in
    let rest = spans_between (types_of (drop (suc n) key)) (drop (suc n) ls) (drop (suc n) hs) in
    rw (add-one n, drop-cons key n k a, drop-cons ls n l b, drop-cons hs n h c, tie, any_map (λ is. f (fronts n ls is)) front rest)
    (any_same (λ is. f (fronts n ls (front is))) (λ is. f (fronts (suc n) ls is)) rest (λ is. ap f (fronts_more n ls l is b)))

-- where they differ, and those before are the same
pub between_apart : (f : Spans → Bool) (key : List KeyColumn) (ls hs : List Value) (n : ℕ) (k : KeyColumn) (l h : Value) → n < length key → n < length ls → n < length hs
    → is_same (get_or ls n l) (get_or hs n h) ≡ false → ((is : Spans) → fronts n ls is ≡ fronts n hs is)
    → list_any (λ is. f (fronts n ls is)) (spans_between (types_of (drop n key)) (drop n ls) (drop n hs))
    ≡ ((not (is_void (both_span (get_or key n k) (get_or ls n l) (get_or hs n h))) && f (fronts n ls (both_span (get_or key n k) (get_or ls n l) (get_or hs n h) ∷ [])))
    || (list_any (λ is. f (fronts (n + 1) ls is)) (from_key (types_of (drop (n + 1) key)) (drop (n + 1) ls))
    || list_any (λ is. f (fronts (n + 1) hs is)) (to_key (types_of (drop (n + 1) key)) (drop (n + 1) hs))))
between_apart f key ls hs n k l h a b c tie alike =
    let i = both_span (get_or key n k) (get_or ls n l) (get_or hs n h) in
    let low : Spans → Spans = λ is. point (get_or ls n l) ∷ is in
    let high : Spans → Spans = λ is. point (get_or hs n h) ∷ is in
    let lower = from_key (types_of (drop (suc n) key)) (drop (suc n) ls) in
    let upper = to_key (types_of (drop (suc n) key)) (drop (suc n) hs) in
    rw (
      add-one n,
      drop-cons key n k a,
      drop-cons ls n l b,
      drop-cons hs n h c,
      tie,
      any_append (λ is. f (fronts n ls is)) (some_box i) (map low lower ++ map high upper),
      any_append (λ is. f (fronts n ls is)) (map low lower) (map high upper),
      any_box (λ is. f (fronts n ls is)) i,
      any_map (λ is. f (fronts n ls is)) low lower,
      any_map (λ is. f (fronts n ls is)) high upper,
      any_same (λ is. f (fronts n ls (low is))) (λ is. f (fronts (suc n) ls is)) lower (λ is. ap f (fronts_more n ls l is b)),
      any_same (λ is. f (fronts n ls (high is))) (λ is. f (fronts (suc n) hs is)) upper (λ is. ap f (alike (high is) ∙ fronts_more n hs h is c)),
    )
    refl

pub between_end : (f : Spans → Bool) (key : List KeyColumn) (ls hs : List Value) (n : ℕ) → length key ≤ n
    → f (fronts n ls []) ≡ list_any (λ is. f (fronts n ls is)) (spans_between (types_of (drop n key)) (drop n ls) (drop n hs))
between_end f key ls hs n a = rw (drop_all n key a) (or_none (f (fronts n ls [])))

-- equal values at n
pub fronts_alike : (n : ℕ) (ls hs : List Value) (l h : Value) → n < length ls → n < length hs → get_or ls n l ≡ get_or hs n h
    → ((is : Spans) → fronts n ls is ≡ fronts n hs is) → (is : Spans) → fronts (n + 1) ls is ≡ fronts (n + 1) hs is
fronts_alike n ls hs l h a b e alike is =
    rw (add-one n) (sym (fronts_more n ls l is a) ∙ alike (point (get_or ls n l) ∷ is) ∙ ap (λ v. fronts n hs (point v ∷ is)) e ∙ fronts_more n hs h is b)

-- the cover's boxes, by their intervals
pub cover_walk : (c : Cond) (key : List KeyColumn) (lo hi : List Value) → may_hold_of c key lo hi ≡ list_any (box_may c key) (spans_between (types_of key) lo hi)
cover_walk c key lo hi = any_map (λ sides. (mask_of c sides).may_true) (sides_of key) (spans_between (types_of key) lo hi)
