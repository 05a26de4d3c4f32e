-- Laws of phrases with optional tokens before them, and of lists.
use Rattle.std.proofs.Common.{◌≡◌, ℕ, zero, suc, ◌≤◌, Bool, true, false, List, [], ◌∷◌, ◌++◌, length, Option, Some, refl, sym, ap, subst, ◌∙◌, append_assoc, ◌⊎◌, inl, inr, arith}
use Rattle.std.proofs.lemmas.Bool.{cases_Bool}
use Rattle.std.proofs.lemmas.List.{append-nil}
use Rattle.mt_types.proofs.OptionLemmas.{then_is, some_is}
use Rattle.mt_tokens.specs.declared.sign.Sign.TheVariants.{Open, Close, Comma}
use Rattle.mt_tokens.specs.Tokens.{Tok}
use Rattle.mt_tokens.specs.Words.{is_sign}
use Rattle.mt_phrases.specs.Phrases.{Phrase, ◌▹◌, ◌◃◌, Many, OneEach, Perhaps, Chain, InParens}
use Rattle.mt_phrases.specs.Readers.{Reader, one_each, skip, skip_if, perhaps, perhaps_if, more, chain, to_close, in_parens}
use Rattle.mt_phrases.proofs.PhraseLaws.{IsRead, Any, Not, after_law, after_strict, before_law}

-- ---- optional tokens

pub one_each_sound : (tests : List (Tok → Bool)) (tokens rest : List Tok) → one_each tests tokens ≡ Some rest → OneEach tests tokens rest
one_each_sound [] tokens rest e = some_is tokens rest e
one_each_sound (test ∷ tests) [] rest e = absurd cc
one_each_sound (test ∷ tests) (token ∷ tokens) rest e = elim (cases_Bool (test token)) [
  | inl here ↦ (here, one_each_sound tests tokens rest (rw here at e))
  | inr other ↦ absurd (let k = rw other at e in cc)
]

pub one_each_complete : (tests : List (Tok → Bool)) (tokens rest : List Tok) → OneEach tests tokens rest → one_each tests tokens ≡ Some rest
one_each_complete [] tokens rest h = ap (λ (us : List Tok). let o : Option (List Tok) = Some us in o) h
one_each_complete (test ∷ tests) [] rest h = absurd h
one_each_complete (test ∷ tests) (token ∷ tokens) rest h = rw h.0 (one_each_complete tests tokens rest h.1)

pub one_each_within : (tests : List (Tok → Bool)) (tokens rest : List Tok) → OneEach tests tokens rest → length rest ≤ length tokens
one_each_within [] tokens rest h = omega (arith, ap length h)
one_each_within (test ∷ tests) [] rest h = absurd h
one_each_within (test ∷ tests) (token ∷ tokens) rest h = omega (arith, one_each_within tests tokens rest h.1)

abbrev pub Skips : List (Tok → Bool) → List Tok → List Tok → Type 0
Skips tests tokens middle = (tokens ≡ middle) ⊎ OneEach tests tokens middle

pub skips_within : (tests : List (Tok → Bool)) (tokens middle : List Tok) → Skips tests tokens middle → length middle ≤ length tokens
skips_within tests tokens middle (inl h) = omega (arith, ap length h)
skips_within tests tokens middle (inr h) = one_each_within tests tokens middle h

pub skip_sound : (test : Tok → Bool) (tests : List (Tok → Bool)) (tokens middle : List Tok) → skip test tests tokens ≡ Some middle → Skips (test ∷ tests) tokens middle
skip_sound test tests [] middle e = inl (some_is [] middle e)
skip_sound test tests (token ∷ tokens) middle e = elim (cases_Bool (test token)) [
  | inl here ↦ inr (here, one_each_sound tests tokens middle (rw here at e))
  | inr other ↦ inl (some_is (token ∷ tokens) middle (rw other at e))
]

pub skip_none : (test : Tok → Bool) (tests : List (Tok → Bool)) (tokens : List Tok) → Not test tokens → skip test tests tokens ≡ Some tokens
skip_none test tests [] none = refl
skip_none test tests (token ∷ tokens) none = rw none refl

pub skip_all : (test : Tok → Bool) (tests : List (Tok → Bool)) (tokens middle : List Tok) → OneEach (test ∷ tests) tokens middle → skip test tests tokens ≡ Some middle
skip_all test tests [] middle h = absurd h
skip_all test tests (token ∷ tokens) middle h = rw h.0 (one_each_complete tests tokens middle h.1)

pub skip_if_sound : (begins : List Tok → Bool) (tests : List (Tok → Bool)) (tokens middle : List Tok) → skip_if begins tests tokens ≡ Some middle → Skips tests tokens middle
skip_if_sound begins tests tokens middle e = elim (cases_Bool (begins tokens)) [
  | inl here ↦ inr (one_each_sound tests tokens middle (rw here at e))
  | inr other ↦ inl (some_is tokens middle (rw other at e))
]

module _ {A : Type 0} (test : Tok → Bool) (tests : List (Tok → Bool)) (P : Phrase A) (p : Reader A) (S : List Tok → Type 0) (law : IsRead P p S)
    (other : (tokens : List Tok) (tree : A) (rest : List Tok) → P tokens tree rest → S rest → Not test tokens) where
  perhaps_sound : (tokens : List Tok) (x : A × List Tok) → perhaps test tests p tokens ≡ Some x → Perhaps (test ∷ tests) P tokens x.0 x.1
  perhaps_sound tokens x e =
      let y = then_is p (skip test tests tokens) x e in
      (y.0, skip_sound test tests tokens y.0 y.1, law.sound y.0 x y.2)

  skipped : (tokens middle : List Tok) → Skips (test ∷ tests) tokens middle → Not test middle → skip test tests tokens ≡ Some middle
  skipped tokens middle (inl h) none = subst (λ (us : List Tok). skip test tests us ≡ Some middle) (sym h) (skip_none test tests middle none)
  skipped tokens middle (inr h) none = skip_all test tests tokens middle h

  perhaps_complete : (tokens : List Tok) (tree : A) (rest : List Tok) → Perhaps (test ∷ tests) P tokens tree rest → S rest → perhaps test tests p tokens ≡ Some (tree, rest)
  perhaps_complete tokens tree rest h s = rw (skipped tokens h.0 h.1 (other h.0 tree rest h.2 s)) (law.complete h.0 tree rest h.2 s)

  pub perhaps_is_read : IsRead (Perhaps (test ∷ tests) P) (perhaps test tests p) S
  perhaps_is_read = record {
    sound = perhaps_sound;
    complete = perhaps_complete;
    within = λ tokens tree rest h. omega (arith, skips_within (test ∷ tests) tokens h.0 h.1, law.within h.0 tree rest h.2);
  }

pub perhaps_law : {A : Type 0} (test : Tok → Bool) (tests : List (Tok → Bool)) {P : Phrase A} {p : Reader A} {S : List Tok → Type 0} → IsRead P p S
    → ((tokens : List Tok) (tree : A) (rest : List Tok) → P tokens tree rest → S rest → Not test tokens) → IsRead (Perhaps (test ∷ tests) P) (perhaps test tests p) S
perhaps_law test tests {P = P} {p = p} {S = S} law other = perhaps_is_read test tests P p S law other

module _ {A : Type 0} (begins : List Tok → Bool) (tests : List (Tok → Bool)) (P : Phrase A) (p : Reader A) (S : List Tok → Type 0) (law : IsRead P p S)
    (one_begins : (tokens rest : List Tok) → OneEach tests tokens rest → begins tokens ≡ true)
    (other : (tokens : List Tok) (tree : A) (rest : List Tok) → P tokens tree rest → S rest → begins tokens ≡ false) where
  perhaps_if_sound : (tokens : List Tok) (x : A × List Tok) → perhaps_if begins tests p tokens ≡ Some x → Perhaps tests P tokens x.0 x.1
  perhaps_if_sound tokens x e =
      let y = then_is p (skip_if begins tests tokens) x e in
      (y.0, skip_if_sound begins tests tokens y.0 y.1, law.sound y.0 x y.2)

  skipped_if : (tokens middle : List Tok) → Skips tests tokens middle → begins middle ≡ false → skip_if begins tests tokens ≡ Some middle
  skipped_if tokens middle (inl h) none = subst (λ (us : List Tok). skip_if begins tests us ≡ Some middle) (sym h) (rw none refl)
  skipped_if tokens middle (inr h) none = rw (one_begins tokens middle h) (one_each_complete tests tokens middle h)

  perhaps_if_complete : (tokens : List Tok) (tree : A) (rest : List Tok) → Perhaps tests P tokens tree rest → S rest → perhaps_if begins tests p tokens ≡ Some (tree, rest)
  perhaps_if_complete tokens tree rest h s = rw (skipped_if tokens h.0 h.1 (other h.0 tree rest h.2 s)) (law.complete h.0 tree rest h.2 s)

  pub perhaps_if_is_read : IsRead (Perhaps tests P) (perhaps_if begins tests p) S
  perhaps_if_is_read = record {
    sound = perhaps_if_sound;
    complete = perhaps_if_complete;
    within = λ tokens tree rest h. omega (arith, skips_within tests tokens h.0 h.1, law.within h.0 tree rest h.2);
  }

pub perhaps_if_law : {A : Type 0} (begins : List Tok → Bool) (tests : List (Tok → Bool)) {P : Phrase A} {p : Reader A} {S : List Tok → Type 0} → IsRead P p S
    → ((tokens rest : List Tok) → OneEach tests tokens rest → begins tokens ≡ true)
    → ((tokens : List Tok) (tree : A) (rest : List Tok) → P tokens tree rest → S rest → begins tokens ≡ false) → IsRead (Perhaps tests P) (perhaps_if begins tests p) S
perhaps_if_law begins tests {P = P} {p = p} {S = S} law one_begins other = perhaps_if_is_read begins tests P p S law one_begins other

-- ---- lists

module _ {A : Type 0} (P : Phrase A) (p : Reader A) (S T : List Tok → Type 0) (law : IsRead P p S)
    (at_comma : (token : Tok) (rest : List Tok) → is_sign Comma token ≡ true → S (token ∷ rest))
    (at_end : (rest : List Tok) → T rest → Not (is_sign Comma) rest × S rest) where
  abbrev MoreOf : List A → List Tok → List A × List Tok → Type 0
  MoreOf found tokens x = (trees : List A) × (x.0 ≡ found ++ trees) × Many (is_sign Comma ▹ P) tokens trees x.1

  none_more : (found : List A) (tokens : List Tok) (x : List A × List Tok) → (let o : Option (List A × List Tok) = Some (found, tokens) in o) ≡ Some x → MoreOf found tokens x
  none_more found tokens x e =
      let pair : List A × List Tok = (found, tokens) in
      subst (MoreOf found tokens) (some_is pair x e) ([], sym (append-nil found), refl)

  more_sound : (count : ℕ) (found : List A) (tokens : List Tok) (x : List A × List Tok) → more p count found tokens ≡ Some x → MoreOf found tokens x
  unfolding more
  more_sound zero found tokens x e = none_more found tokens x e
  more_sound (suc count) found [] x e = none_more found [] x e
  more_sound (suc count) found (token ∷ tokens) x e = elim (cases_Bool (is_sign Comma token)) [
    | inl here ↦
        let y = then_is (λ (y : A × List Tok). more p count (found ++ y.0 ∷ []) y.1) (p tokens) x (rw here at e) in
        let m = more_sound count (found ++ y.0.0 ∷ []) y.0.1 x y.2 in
        (y.0.0 ∷ m.0, m.1 ∙ append_assoc found (y.0.0 ∷ []) m.0, (y.0.1, (here, law.sound tokens y.0 y.1), m.2))
    | inr other ↦ none_more found (token ∷ tokens) x (rw other at e)
  ]

  end_of : (tokens : List Tok) (trees : List A) (rest : List Tok) → Many (is_sign Comma ▹ P) tokens trees rest → T rest → S tokens
  end_of tokens [] rest h t = subst S (sym h) (at_end rest t).1
  end_of [] (tree ∷ trees) rest h t = absurd h.1
  end_of (token ∷ tokens) (tree ∷ trees) rest h t = at_comma token tokens h.1.0

  no_more : (count : ℕ) (found : List A) (tokens : List Tok) → Not (is_sign Comma) tokens → more p count found tokens ≡ Some (found, tokens)
  unfolding more
  no_more zero found tokens none = refl
  no_more (suc count) found [] none = refl
  no_more (suc count) found (token ∷ tokens) none = rw none refl

  more_complete : (count : ℕ) (found : List A) (tokens : List Tok) (trees : List A) (rest : List Tok) → length tokens ≤ count → Many (is_sign Comma ▹ P) tokens trees rest → T rest
      → more p count found tokens ≡ Some (found ++ trees, rest)
  unfolding more
  more_complete count found tokens [] rest room h t =
      subst (λ (us : List Tok). more p count found us ≡ Some (found ++ [], rest)) (sym h)
      (no_more count found rest (at_end rest t).0 ∙ ap (λ (trees : List A). let o : Option (List A × List Tok) = Some (trees, rest) in o) (sym (append-nil found)))
  more_complete count found [] (tree ∷ trees) rest room h t = absurd h.1
  more_complete zero found (token ∷ tokens) (tree ∷ trees) rest room h t = absurd (omega arith)
  more_complete (suc count) found (token ∷ tokens) (tree ∷ trees) rest room h t =
      let one = law.complete tokens tree h.0 h.1.1 (end_of h.0 trees rest h.2 t) in
      let less : length h.0 ≤ length tokens = law.within tokens tree h.0 h.1.1 in
      let others = more_complete count (found ++ tree ∷ []) h.0 trees rest (omega arith) h.2 t in
      rw (h.1.0, one) (others ∙ ap (λ (us : List A). let o : Option (List A × List Tok) = Some (us, rest) in o) (append_assoc found (tree ∷ []) trees))

  many_within : (tokens : List Tok) (trees : List A) (rest : List Tok) → Many (is_sign Comma ▹ P) tokens trees rest → length rest ≤ length tokens
  many_within tokens [] rest h = omega (arith, ap length h)
  many_within tokens (tree ∷ trees) rest h = omega (arith, after_strict (is_sign Comma) P p S law tokens tree h.0 h.1, many_within h.0 trees rest h.2)

  chain_sound : (tokens : List Tok) (x : List A × List Tok) → chain p tokens ≡ Some x → Chain P tokens x.0 x.1
  chain_sound tokens x e =
      let y = then_is (λ (y : A × List Tok). more p (length y.1) (y.0 ∷ []) y.1) (p tokens) x e in
      let m = more_sound (length y.0.1) (y.0.0 ∷ []) y.0.1 x y.2 in
      ((y.0.0, m.0), m.1, (y.0.1, law.sound tokens y.0 y.1, m.2))

  chain_complete : (tokens : List Tok) (trees : List A) (rest : List Tok) → Chain P tokens trees rest → T rest → chain p tokens ≡ Some (trees, rest)
  chain_complete tokens trees rest h t =
      let one = law.complete tokens h.0.0 h.2.0 h.2.1 (end_of h.2.0 h.0.1 rest h.2.2 t) in
      let others = more_complete (length h.2.0) (h.0.0 ∷ []) h.2.0 h.0.1 rest (omega arith) h.2.2 t in
      rw one (others ∙ ap (λ (us : List A). let o : Option (List A × List Tok) = Some (us, rest) in o) (sym h.1))

  pub chain_is_read : IsRead (Chain P) (chain p) T
  chain_is_read = record {
    sound = chain_sound;
    complete = chain_complete;
    within = λ tokens trees rest h. omega (arith, law.within tokens h.0.0 h.2.0 h.2.1, many_within h.2.0 h.0.1 rest h.2.2);
  }

pub chain_law : {A : Type 0} {P : Phrase A} {p : Reader A} {S : List Tok → Type 0} (T : List Tok → Type 0) → IsRead P p S
    → ((token : Tok) (rest : List Tok) → is_sign Comma token ≡ true → S (token ∷ rest)) → ((rest : List Tok) → T rest → Not (is_sign Comma) rest × S rest) → IsRead (Chain P) (chain p) T
chain_law {P = P} {p = p} {S = S} T law at_comma at_end = chain_is_read P p S T law at_comma at_end

-- ( P )
pub closed_law : {A : Type 0} {P : Phrase A} {p : Reader A} {S : List Tok → Type 0} → IsRead P p S → ((token : Tok) (rest : List Tok) → is_sign Close token ≡ true → S (token ∷ rest)) → IsRead (P ◃ is_sign Close) (to_close p) Any
closed_law law stops = before_law (is_sign Close) law stops

pub parens_law : {A : Type 0} {P : Phrase A} {p : Reader A} {S : List Tok → Type 0} → IsRead P p S → ((token : Tok) (rest : List Tok) → is_sign Close token ≡ true → S (token ∷ rest)) → IsRead (InParens P) (in_parens p) Any
parens_law law stops = after_law (is_sign Open) (closed_law law stops)
