-- The boxes of a cover, one after another.
use Rattle.std.proofs.Common.{◌≡◌, ℕ, zero, suc, ◌+◌, ◌<◌, ◌≤◌, true, false, List, [], ◌∷◌, ◌++◌, length, drop, get_or, add-one, map, refl, ap, sym, ◌∙◌, arith}
use Rattle.std.proofs.Math.Seq.{drop-cons}
use Rattle.std.proofs.lemmas.List.{drop_all}
use Rattle.mt_types.specs.declared.value.Value.{Value}
use Rattle.mt_query.specs.Truth.{is_same}
use Rattle.mt_cond.specs.declared.types.Interval.{Interval}
use Rattle.mt_cond.specs.declared.types.Side.{Side}
use Rattle.mt_cond.specs.declared.types.KeyColumn.{KeyColumn}
use Rattle.mt_cond.specs.Cover.{Spans, sides_of, fronts, point, some_box, from_key, from_span, to_key, to_span, both_span, spans_between}
use Rattle.mt_cond.specs.Keys.{types_of}
use Rattle.mt_cond.proofs.WalkLemmas.{fronts_more}

-- ---- sides

abbrev pub side : KeyColumn → Interval → Side
side k i = record { column = k.column; interval = i }

-- one interval more
pub sides_more : (key : List KeyColumn) (vs : List Value) (n : ℕ) (k : KeyColumn) (i : Interval) → n < length key → n ≤ length vs
    → sides_of key (fronts n vs (i ∷ [])) ≡ sides_of key (fronts n vs []) ++ side (get_or key n k) i ∷ []
sides_more [] vs n k i a b = absurd (omega arith)
sides_more (c ∷ cs) vs zero k i a b = refl
sides_more (c ∷ cs) [] (suc n) k i a b = absurd (omega arith)
sides_more (c ∷ cs) (v ∷ vs) (suc n) k i a b = ap (λ sides. side c (point v) ∷ sides) (sides_more cs vs n k i (omega arith) (omega arith))

-- one value more
pub sides_fixed : (key : List KeyColumn) (vs : List Value) (n : ℕ) (k : KeyColumn) (v : Value) → n < length key → n < length vs
    → sides_of key (fronts (n + 1) vs []) ≡ sides_of key (fronts n vs []) ++ side (get_or key n k) (point (get_or vs n v)) ∷ []
sides_fixed key vs n k v a b = rw (add-one n) (ap (sides_of key) (sym (fronts_more n vs v [] b)) ∙ sides_more key vs n k (point (get_or vs n v)) a (omega arith))

-- ---- boxes

module _ {X : Type 0} where
  map_append : (f : Spans → X) (xs ys : List Spans) → map f (xs ++ ys) ≡ map f xs ++ map f ys
  map_append f [] ys = refl
  map_append f (x ∷ xs) ys = ap (λ zs. f x ∷ zs) (map_append f xs ys)

  map_map : (f : Spans → X) (g : Spans → Spans) (xs : List Spans) → map f (map g xs) ≡ map (λ x. f (g x)) xs
  map_map f g [] = refl
  map_map f g (x ∷ xs) = ap (λ zs. f (g x) ∷ zs) (map_map f g xs)

  map_same : (f g : Spans → X) (xs : List Spans) → ((x : Spans) → f x ≡ g x) → map f xs ≡ map g xs
  map_same f g [] h = refl
  map_same f g (x ∷ xs) h = rw (h x, map_same f g xs h) refl

  append_over : (xs ys zs : List X) → (xs ++ ys) ++ zs ≡ xs ++ (ys ++ zs)
  append_over [] ys zs = refl
  append_over (x ∷ xs) ys zs = ap (λ rest. x ∷ rest) (append_over xs ys zs)

  -- some appended, and then the others
  pub joined : (old now some others all whole : List X) → now ≡ old ++ some → all ≡ some ++ others → old ++ all ≡ whole → now ++ others ≡ whole
  joined old now some others all whole p q r = rw p (append_over old some others ∙ ap (λ xs. old ++ xs) (sym q) ∙ r)

  pub three : (b0 b1 b2 b3 s a b whole : List X) → b0 ≡ [] → b1 ≡ b0 ++ s → b2 ≡ b1 ++ a → b3 ≡ b2 ++ b → whole ≡ s ++ (a ++ b) → b3 ≡ whole
  three b0 b1 b2 b3 s a b whole z p q r e = r ∙ ap (λ xs. xs ++ b) (q ∙ ap (λ xs. xs ++ a) (p ∙ ap (λ xs. xs ++ s) z)) ∙ append_over s a b ∙ sym e

  -- from a key on: the box past the value at n, and the boxes from the next value on
  pub from_next : (f : Spans → X) (key : List KeyColumn) (vs : List Value) (n : ℕ) (k : KeyColumn) (v : Value) → n < length key → n < length vs
      → map (λ is. f (fronts n vs is)) (from_key (types_of (drop n key)) (drop n vs))
      ≡ map (λ is. f (fronts n vs is)) (some_box (from_span (get_or key n k) (get_or vs n v)))
      ++ map (λ is. f (fronts (n + 1) vs is)) (from_key (types_of (drop (n + 1) key)) (drop (n + 1) vs))
  from_next f key vs n k v a b =
      let i = from_span (get_or key n k) (get_or vs n v) in
      let front : Spans → Spans = λ is. point (get_or vs n v) ∷ is in
      let rest = from_key (types_of (drop (suc n) key)) (drop (suc n) vs) in
      rw (add-one n, drop-cons key n k a, drop-cons vs n v b, map_append (λ is. f (fronts n vs is)) (some_box i) (map front rest), map_map (λ is. f (fronts n vs is)) front rest)
      (ap (λ ys. map (λ is. f (fronts n vs is)) (some_box i) ++ ys) (map_same (λ is. f (fronts n vs (front is))) (λ is. f (fronts (suc n) vs is)) rest (λ is. ap f (fronts_more n vs v is b))))

  -- at the end: the point
  pub from_last : (f : Spans → X) (key : List KeyColumn) (vs : List Value) (n : ℕ) → length key ≤ n
      → map (λ is. f (fronts n vs is)) (from_key (types_of (drop n key)) (drop n vs)) ≡ f (fronts n vs []) ∷ []
  from_last f key vs n a = rw (drop_all n key a) refl

  -- up to a key: the box before the value at n, and the boxes from the next value on
  pub to_next : (f : Spans → X) (key : List KeyColumn) (vs : List Value) (n : ℕ) (k : KeyColumn) (v : Value) → n < length key → n < length vs
      → map (λ is. f (fronts n vs is)) (to_key (types_of (drop n key)) (drop n vs))
      ≡ map (λ is. f (fronts n vs is)) (some_box (to_span (get_or key n k) (get_or vs n v)))
      ++ map (λ is. f (fronts (n + 1) vs is)) (to_key (types_of (drop (n + 1) key)) (drop (n + 1) vs))
  to_next f key vs n k v a b =
      let i = to_span (get_or key n k) (get_or vs n v) in
      let front : Spans → Spans = λ is. point (get_or vs n v) ∷ is in
      let rest = to_key (types_of (drop (suc n) key)) (drop (suc n) vs) in
      rw (add-one n, drop-cons key n k a, drop-cons vs n v b, map_append (λ is. f (fronts n vs is)) (some_box i) (map front rest), map_map (λ is. f (fronts n vs is)) front rest)
      (ap (λ ys. map (λ is. f (fronts n vs is)) (some_box i) ++ ys) (map_same (λ is. f (fronts n vs (front is))) (λ is. f (fronts (suc n) vs is)) rest (λ is. ap f (fronts_more n vs v is b))))

  pub to_last : (f : Spans → X) (key : List KeyColumn) (vs : List Value) (n : ℕ) → length key ≤ n
      → map (λ is. f (fronts n vs is)) (to_key (types_of (drop n key)) (drop n vs)) ≡ f (fronts n vs []) ∷ []
  to_last f key vs n a = rw (drop_all n key a) refl

  -- where the values at n tie
  pub tied_next : (f : Spans → X) (key : List KeyColumn) (ls hs : List Value) (n : ℕ) (k : KeyColumn) (l h : Value) → n < length key → n < length ls → n < length hs
      → is_same (get_or ls n l) (get_or hs n h) ≡ true
      → map (λ is. f (fronts n ls is)) (spans_between (types_of (drop n key)) (drop n ls) (drop n hs))
      ≡ map (λ is. f (fronts (n + 1) ls is)) (spans_between (types_of (drop (n + 1) key)) (drop (n + 1) ls) (drop (n + 1) hs))
  tied_next f key ls hs n k l h a b c tie =
      let front : Spans → Spans = λ is. point (get_or ls n l) ∷ is in
      let rest = spans_between (types_of (drop (suc n) key)) (drop (suc n) ls) (drop (suc n) hs) in
      rw (add-one n, drop-cons key n k a, drop-cons ls n l b, drop-cons hs n h c, tie, map_map (λ is. f (fronts n ls is)) front rest)
      (map_same (λ is. f (fronts n ls (front is))) (λ is. f (fronts (suc n) ls is)) rest (λ is. ap f (fronts_more n ls l is b)))

  -- where they differ, and those before are the same
  pub apart_next : (f : Spans → X) (key : List KeyColumn) (ls hs : List Value) (n : ℕ) (k : KeyColumn) (l h : Value) → n < length key → n < length ls → n < length hs
      → is_same (get_or ls n l) (get_or hs n h) ≡ false → ((is : Spans) → fronts n ls is ≡ fronts n hs is)
      → map (λ is. f (fronts n ls is)) (spans_between (types_of (drop n key)) (drop n ls) (drop n hs))
      ≡ map (λ is. f (fronts n ls is)) (some_box (both_span (get_or key n k) (get_or ls n l) (get_or hs n h)))
      ++ (map (λ is. f (fronts (n + 1) ls is)) (from_key (types_of (drop (n + 1) key)) (drop (n + 1) ls))
      ++ map (λ is. f (fronts (n + 1) hs is)) (to_key (types_of (drop (n + 1) key)) (drop (n + 1) hs)))
  apart_next f key ls hs n k l h a b c tie alike =
      let i = both_span (get_or key n k) (get_or ls n l) (get_or hs n h) in
      let low : Spans → Spans = λ is. point (get_or ls n l) ∷ is in
      let high : Spans → Spans = λ is. point (get_or hs n h) ∷ is in
      let lower = from_key (types_of (drop (suc n) key)) (drop (suc n) ls) in
      let upper = to_key (types_of (drop (suc n) key)) (drop (suc n) hs) in
      rw (
        add-one n,
        drop-cons key n k a,
        drop-cons ls n l b,
        drop-cons hs n h c,
        tie,
        map_append (λ is. f (fronts n ls is)) (some_box i) (map low lower ++ map high upper),
        map_append (λ is. f (fronts n ls is)) (map low lower) (map high upper),
        map_map (λ is. f (fronts n ls is)) low lower,
        map_map (λ is. f (fronts n ls is)) high upper,
        map_same (λ is. f (fronts n ls (low is))) (λ is. f (fronts (suc n) ls is)) lower (λ is. ap f (fronts_more n ls l is b)),
        map_same (λ is. f (fronts n ls (high is))) (λ is. f (fronts (suc n) hs is)) upper (λ is. ap f (alike (high is) ∙ fronts_more n hs h is c)),
      )
      refl

  pub between_last : (f : Spans → X) (key : List KeyColumn) (ls hs : List Value) (n : ℕ) → length key ≤ n
      → map (λ is. f (fronts n ls is)) (spans_between (types_of (drop n key)) (drop n ls) (drop n hs)) ≡ f (fronts n ls []) ∷ []
  between_last f key ls hs n a = rw (drop_all n key a) refl
