-- Texts that begin with a prefix, and what comes after all of them.
use Rattle.std.proofs.Common.{◌≡◌, ℕ, ℤ, suc, ◌+◌, ◌<◌, ◌==◌, Bool, true, false, ◌||◌, ◌&&◌, List, [], ◌∷◌, refl, ap, sym, arith, get_or, Option, Some, None}
use Rattle.std.specs.Ordering.{is_lt, nat_cmp, is_le, is_ge, ordering_then}
use Rattle.std.specs.declared.cmp.Ordering.{Ordering}
use Rattle.std.specs.declared.cmp.Ordering.TheVariants.{Less, Greater}
use Rattle.std.specs.Cmp.{nat_cmp_is, ranks}
use Rattle.std.proofs.lemmas.Cmp.{by_ranked}
use Rattle.std.specs.Cmp.Lexicographic.{slice_cmp}
use Rattle.mt_facts.proofs.Orderings.{nat_cmp_same}
use Rattle.mt_types.specs.declared.value.Value.{Value}
use Rattle.mt_types.specs.declared.value.Value.TheVariants.{Text, Num, Huge, Null, State, List as Items, outs-Text, outs-Num, outs-Huge, outs-Null, outs-List, outs-State}
use Rattle.mt_types.specs.declared.value.AggState.{AggState}
use Rattle.mt_types.specs.declared.value.Value.TheOpen.{Value-F}
use Rattle.mt_types.specs.Order.{value_cmp}
use Rattle.mt_query.specs.Truth.{begins_with}
use Rattle.mt_cond.proofs.LevelLemmas.{texts_cmp, cmp_of}
use Rattle.mt_cond.specs.Masks.{next, next_byte, is_before, is_whole_ff, text_before}

less_cmp : (x y : ℕ) → x < y → nat_cmp x y ≡ Less
less_cmp x y h = sym (nat_cmp_is x y Less h)

next_after : (c : ℕ) (ds n : List ℕ) (o : Option (List ℕ)) → ((rest : List ℕ) → o ≡ Some rest → slice_cmp nat_cmp ds rest ≡ Less) → next_byte c o ≡ Some n → slice_cmp nat_cmp (c ∷ ds) n ≡ Less
next_after c ds n None h e = grind (arith, less_cmp c (c + 1) (omega arith))
next_after c ds n (Some rest) h e = grind (arith, nat_cmp_same c, h rest refl)

-- all texts that begin so are before the next
pub begun_before : (p x n : List ℕ) → begins_with p x ≡ true → next p ≡ Some n → slice_cmp nat_cmp x n ≡ Less
begun_before [] x n b e = grind arith
begun_before (c ∷ cs) [] n b e = grind arith
begun_before (c ∷ cs) (d ∷ ds) n b e =
    let same : d ≡ c = grind arith in
    let more : begins_with cs ds ≡ true = grind arith in
    rw same (next_after c ds n (next cs) (λ rest is. begun_before cs ds rest more is) e)

-- nothing comes after exactly where all bytes are ff
pub no_next : (p : List ℕ) → is_whole_ff p ≡ true → next p ≡ None
no_next [] h = refl
no_next (c ∷ cs) h = grind (arith, no_next cs)

next_of : (c : ℕ) (whole : Bool) (o : Option (List ℕ)) → (whole ≡ true → o ≡ None) → (whole ≡ false → (n : List ℕ) × (o ≡ Some n)) → ((c == 255) && whole) ≡ false → (n : List ℕ) × (next_byte c o ≡ Some n)
next_of c whole (Some rest) e f h = (c ∷ rest, refl)
next_of c true None e f h = ((c + 1) ∷ [], grind arith)
next_of c false None e f h = absurd (grind (arith, (f refl).1))

pub some_next : (p : List ℕ) → is_whole_ff p ≡ false → (n : List ℕ) × (next p ≡ Some n)
some_next [] h = absurd (grind arith)
some_next (c ∷ cs) h = next_of c (is_whole_ff cs) (next cs) (no_next cs) (some_next cs) h

next_not_less : (d c : ℕ) (ds : List ℕ) → c < d → is_lt (slice_cmp nat_cmp (d ∷ ds) ((c + 1) ∷ [])) ≡ false
next_not_less d c [] more = by_ranked (d < c + 1) (d ≡ c + 1) (c + 1 < d) (nat_cmp d (c + 1)) (ranks d (c + 1)) (λ e p. absurd (omega arith)) (λ e p. rw e refl) (λ e p. rw e refl)
next_not_less d c (b ∷ bs) more = by_ranked (d < c + 1) (d ≡ c + 1) (c + 1 < d) (nat_cmp d (c + 1)) (ranks d (c + 1)) (λ e p. absurd (omega arith)) (λ e p. rw e refl) (λ e p. rw e refl)

before_byte : (c d : ℕ) (ds cs : List ℕ) (o : Option (List ℕ)) → d < 256 → text_before ds o ≡ is_lt (slice_cmp nat_cmp ds cs) || begins_with cs ds
    → text_before (d ∷ ds) (next_byte c o) ≡ is_lt (slice_cmp nat_cmp (d ∷ ds) (c ∷ cs)) || begins_with (c ∷ cs) (d ∷ ds)
before_byte c d ds cs None byte h = by_ranked (d < c) (d ≡ c) (c < d) (nat_cmp d c) (ranks d c)
    (λ e less. grind (arith, e, less_cmp d (c + 1) (omega arith)))
    (λ e eq. grind (arith, e, h, less_cmp d (c + 1) (omega arith)))
    (λ e more. grind (arith, e, next_not_less d c ds more))
before_byte c d ds cs (Some rest) byte h = by_ranked (d < c) (d ≡ c) (c < d) (nat_cmp d c) (ranks d c)
    (λ e less. rw e refl)
    (λ e eq. rw (e, eq) (grind (arith, h)))
    (λ e more. rw e (grind arith))

before_empty : (c : ℕ) (o : Option (List ℕ)) → text_before [] (next_byte c o) ≡ true
before_empty c None = grind arith
before_empty c (Some rest) = refl

-- before the next of a prefix: before the prefix, or begun so
pub before_next : (p x : List ℕ) → ((k : ℕ) → get_or x k 0 < 256) → text_before x (next p) ≡ is_lt (slice_cmp nat_cmp x p) || begins_with p x
before_next [] [] h = refl
before_next [] (d ∷ ds) h = refl
before_next (c ∷ cs) [] h = before_empty c (next cs)
before_next (c ∷ cs) (d ∷ ds) h = before_byte c d ds cs (next cs) (h 0) (before_next cs ds (λ k. h (suc k)))

pub texts_before : (x : List ℕ) (o : Option (List ℕ)) → is_before (Text x) o ≡ text_before x o
texts_before x None = refl
texts_before x (Some n) = ap is_lt (texts_cmp x n)

-- values of other kinds
abbrev other_before : Bool → Value → Type 0
other_before b v = (n : List ℕ) → is_lt (value_cmp v (Text n)) ≡ b

by_whole : (v : Value) → other_before false v → (whole : Bool) (o : Option (List ℕ)) → (whole ≡ true → o ≡ None) → (whole ≡ false → (n : List ℕ) × (o ≡ Some n)) → is_before v o ≡ whole
by_whole v h true o e f = rw (e refl) refl
by_whole v h false o e f = rw ((f refl).1) (h (f refl).0)

never_before : (v : Value) (p : List ℕ) → other_before false v → is_before v (next p) ≡ is_whole_ff p
never_before v p h = by_whole v h (is_whole_ff p) (next p) (no_next p) (some_next p)

pub null_before : (p : List ℕ) → is_before Null (next p) ≡ is_whole_ff p
null_before p = never_before Null p (λ n. ap is_lt (cmp_of Null (Text n) Value-F.Null (Value-F.Text n) outs-Null (outs-Text n)))

pub lists_before : (items : List Value) (p : List ℕ) → is_before (Items items) (next p) ≡ is_whole_ff p
lists_before items p = never_before (Items items) p (λ n. ap is_lt (cmp_of (Items items) (Text n) (Value-F.List items) (Value-F.Text n) (outs-List items) (outs-Text n)))

pub states_before : (s : AggState) (p : List ℕ) → is_before (State s) (next p) ≡ is_whole_ff p
states_before s p = never_before (State s) p (λ n. ap is_lt (cmp_of (State s) (Text n) (Value-F.State s) (Value-F.Text n) (outs-State s) (outs-Text n)))

pub numbers_before : (m : ℤ) (o : Option (List ℕ)) → is_before (Num m) o ≡ true
numbers_before m None = refl
numbers_before m (Some n) = ap is_lt (cmp_of (Num m) (Text n) (Value-F.Num m) (Value-F.Text n) (outs-Num m) (outs-Text n))

pub huge_before : (m : ℕ) (o : Option (List ℕ)) → is_before (Huge m) o ≡ true
huge_before m None = refl
huge_before m (Some n) = ap is_lt (cmp_of (Huge m) (Text n) (Value-F.Huge m) (Value-F.Text n) (outs-Huge m) (outs-Text n))

-- ---- texts that begin with a prefix aren't below it, and what is between two of them begins_with so too

pub begun_above : (p x : List ℕ) → begins_with p x ≡ true → is_ge (slice_cmp nat_cmp x p) ≡ true
begun_above [] [] b = refl
begun_above [] (d ∷ ds) b = refl
begun_above (c ∷ cs) [] b = grind arith
begun_above (c ∷ cs) (d ∷ ds) b =
    let alike : d ≡ c = grind arith in
    let more : begins_with cs ds ≡ true = grind arith in
    rw (alike, nat_cmp_same c) (begun_above cs ds more)

pub begun_between : (p a x b : List ℕ) → begins_with p a ≡ true → begins_with p b ≡ true → is_le (slice_cmp nat_cmp a x) ≡ true → is_le (slice_cmp nat_cmp x b) ≡ true → begins_with p x ≡ true
begun_between [] a x b g h below above = refl
begun_between (c ∷ cs) [] x b g h below above = absurd (grind arith)
begun_between (c ∷ cs) (d ∷ ds) [] b g h below above = absurd (grind arith)
begun_between (c ∷ cs) (d ∷ ds) (e ∷ es) [] g h below above = absurd (grind arith)
begun_between (c ∷ cs) (d ∷ ds) (e ∷ es) (f ∷ fs) g h below above =
    let left : d ≡ c = grind arith in
    let right : f ≡ c = grind arith in
    let lower : is_le (ordering_then (nat_cmp c e) (slice_cmp nat_cmp ds es)) ≡ true = rw left at below in
    let upper : is_le (ordering_then (nat_cmp e c) (slice_cmp nat_cmp es fs)) ≡ true = rw right at above in
    by_ranked (c < e) (c ≡ e) (e < c) (nat_cmp c e) (ranks c e)
    (λ o less. absurd (not_over e c (slice_cmp nat_cmp es fs) less upper))
    (λ o same. let both : (e ≡ c) = sym same in
    let low : is_le (slice_cmp nat_cmp ds es) ≡ true = rw o at lower in
    let high : is_le (slice_cmp nat_cmp es fs) ≡ true = rw (both, nat_cmp_same c) at upper in
    let rest : begins_with cs es ≡ true = begun_between cs ds es fs (grind arith) (grind arith) low high in
    grind (arith, rest, same))
    (λ o more. absurd (not_over c e (slice_cmp nat_cmp ds es) more lower))
  where
    not_over : (x y : ℕ) (o : Ordering) → y < x → is_le (ordering_then (nat_cmp x y) o) ≡ true → ⊥
    not_over x y o more h = let g : nat_cmp x y ≡ Greater = sym (nat_cmp_is x y Greater more) in grind (arith, g, h)
