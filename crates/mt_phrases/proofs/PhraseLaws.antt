-- What is read is the phrase, and each phrase is read: one law for each form of phrase.
use Rattle.std.proofs.Common.{◌≡◌, ◌<◌, ◌≤◌, Bool, true, false, List, [], ◌∷◌, length, Option, Some, None, refl, sym, ap, subst, inl, inr, arith}
use Rattle.std.specs.Prelude.{option_map}
use Rattle.std.proofs.lemmas.Bool.{cases_Bool}
use Rattle.mt_types.proofs.OptionLemmas.{mapped_is, then_is, some_is}
use Rattle.mt_tokens.specs.Tokens.{Tok}
use Rattle.mt_tokens.specs.Splits.{after_if}
use Rattle.mt_tokens.proofs.TokenLemmas.{after_if_some}
use Rattle.mt_phrases.specs.Phrases.{Phrase, One, ◌▹◌, ◌◃◌, ◌&◌, ◌∣◌, Maybe, Made, Kept, first_is}
use Rattle.mt_phrases.specs.Readers.{Reader, one, after, before, both, with_tree, with_tree_if, either, either_if, maybe}

-- What is read is the phrase; the phrase is read where what follows it doesn't go on with it; and it
-- takes tokens away.
pub record IsRead {A : Type 0} (P : Phrase A) (p : Reader A) (Stops : List Tok → Type 0) : Type 0 where
  pub sound : (tokens : List Tok) (x : A × List Tok) → p tokens ≡ Some x → P tokens x.0 x.1
  pub complete : (tokens : List Tok) (tree : A) (rest : List Tok) → P tokens tree rest → Stops rest → p tokens ≡ Some (tree, rest)
  pub within : (tokens : List Tok) (tree : A) (rest : List Tok) → P tokens tree rest → length rest ≤ length tokens

-- whatever follows
abbrev pub Any : List Tok → Type 0
Any rest = Unit {0}

-- no such token follows
abbrev pub Not : (Tok → Bool) → List Tok → Type 0
Not test rest = first_is test rest ≡ false

pub narrowed : {A : Type 0} {P : Phrase A} {p : Reader A} {S : List Tok → Type 0} (T : List Tok → Type 0) → IsRead P p S → ((rest : List Tok) → T rest → S rest) → IsRead P p T
narrowed T law less = record {
  sound = law.sound;
  complete = λ tokens tree rest h s. law.complete tokens tree rest h (less rest s);
  within = law.within;
}

pair_is : {A : Type 0} (tree : A) (us vs : List Tok) → us ≡ vs → (let o : Option (A × List Tok) = Some (tree, us) in o) ≡ Some (tree, vs)
pair_is tree us vs e = ap (λ (ws : List Tok). let o : Option (_ × List Tok) = Some (tree, ws) in o) e

-- ---- one token

one_sound : {A : Type 0} (tree_of : Tok → Option A) (tokens : List Tok) (x : A × List Tok) → one tree_of tokens ≡ Some x → One tree_of tokens x.0 x.1
one_sound tree_of [] x e = absurd cc
one_sound {A = A} tree_of (token ∷ tokens) x e =
    let m = mapped_is (λ (tree : A). (tree, tokens)) (tree_of token) x e in
    subst (λ (y : A × List Tok). (tree_of token ≡ Some y.0) × (tokens ≡ y.1)) (sym m.2) (m.1, refl)

one_complete : {A : Type 0} (tree_of : Tok → Option A) (tokens : List Tok) (tree : A) (rest : List Tok) → One tree_of tokens tree rest → one tree_of tokens ≡ Some (tree, rest)
one_complete tree_of [] tree rest h = absurd h
one_complete tree_of (token ∷ tokens) tree rest h = rw h.0 (pair_is tree tokens rest h.1)

one_within : {A : Type 0} (tree_of : Tok → Option A) (tokens : List Tok) (tree : A) (rest : List Tok) → One tree_of tokens tree rest → length rest ≤ length tokens
one_within tree_of [] tree rest h = absurd h
one_within tree_of (token ∷ tokens) tree rest h = omega (arith, ap length h.1)

pub one_law : {A : Type 0} (tree_of : Tok → Option A) → IsRead (One tree_of) (one tree_of) Any
one_law tree_of = record {
  sound = one_sound tree_of;
  complete = λ tokens tree rest h s. one_complete tree_of tokens tree rest h;
  within = one_within tree_of;
}

-- ---- a token, then a phrase

module _ {A : Type 0} (test : Tok → Bool) (P : Phrase A) (p : Reader A) (S : List Tok → Type 0) (law : IsRead P p S) where
  after_sound : (tokens : List Tok) (x : A × List Tok) → after test p tokens ≡ Some x → (test ▹ P) tokens x.0 x.1
  after_sound [] x e = absurd cc
  after_sound (token ∷ tokens) x e = elim (cases_Bool (test token)) [
    | inl here ↦ (here, law.sound tokens x (rw here at e))
    | inr other ↦ absurd (let k = rw other at e in cc)
  ]

  after_complete : (tokens : List Tok) (tree : A) (rest : List Tok) → (test ▹ P) tokens tree rest → S rest → after test p tokens ≡ Some (tree, rest)
  after_complete [] tree rest h s = absurd h
  after_complete (token ∷ tokens) tree rest h s = rw h.0 (law.complete tokens tree rest h.1 s)

  pub after_strict : (tokens : List Tok) (tree : A) (rest : List Tok) → (test ▹ P) tokens tree rest → length rest < length tokens
  after_strict [] tree rest h = absurd h
  after_strict (token ∷ tokens) tree rest h = omega (arith, law.within tokens tree rest h.1)

  pub after_is_read : IsRead (test ▹ P) (after test p) S
  after_is_read = record {
    sound = after_sound;
    complete = after_complete;
    within = λ tokens tree rest h. omega (arith, after_strict tokens tree rest h);
  }

pub after_law : {A : Type 0} (test : Tok → Bool) {P : Phrase A} {p : Reader A} {S : List Tok → Type 0} → IsRead P p S → IsRead (test ▹ P) (after test p) S
after_law test {P = P} {p = p} {S = S} law = after_is_read test P p S law

-- ---- a phrase, then a token

module _ {A : Type 0} (test : Tok → Bool) (P : Phrase A) (p : Reader A) (S : List Tok → Type 0) (law : IsRead P p S) (stops : (token : Tok) (rest : List Tok) → test token ≡ true → S (token ∷ rest)) where
  before_sound : (tokens : List Tok) (x : A × List Tok) → before p test tokens ≡ Some x → (P ◃ test) tokens x.0 x.1
  before_sound tokens x e =
      let y = then_is (λ (y : A × List Tok). option_map (λ (rest : List Tok). (y.0, rest)) (after_if test y.1)) (p tokens) x e in
      let z = mapped_is (λ (rest : List Tok). (y.0.0, rest)) (after_if test y.0.1) x y.2 in
      let t = after_if_some test y.0.1 z.0 z.1 in
      subst (λ (w : A × List Tok). (P ◃ test) tokens w.0 w.1) (sym z.2) (t.0, subst (λ (us : List Tok). P tokens y.0.0 us) t.1 (law.sound tokens y.0 y.1), t.2)

  before_complete : (tokens : List Tok) (tree : A) (rest : List Tok) → (P ◃ test) tokens tree rest → before p test tokens ≡ Some (tree, rest)
  before_complete tokens tree rest h = rw (law.complete tokens tree (h.0 ∷ rest) h.1 (stops h.0 rest h.2), h.2) refl

  before_within : (tokens : List Tok) (tree : A) (rest : List Tok) → (P ◃ test) tokens tree rest → length rest ≤ length tokens
  before_within tokens tree rest h = omega (arith, law.within tokens tree (h.0 ∷ rest) h.1)

  pub before_is_read : IsRead (P ◃ test) (before p test) Any
  before_is_read = record {
    sound = before_sound;
    complete = λ tokens tree rest h s. before_complete tokens tree rest h;
    within = before_within;
  }

pub before_law : {A : Type 0} (test : Tok → Bool) {P : Phrase A} {p : Reader A} {S : List Tok → Type 0} → IsRead P p S → ((token : Tok) (rest : List Tok) → test token ≡ true → S (token ∷ rest)) → IsRead (P ◃ test) (before p test) Any
before_law test {P = P} {p = p} {S = S} law stops = before_is_read test P p S law stops

-- ---- a phrase, then another

module _ {A B : Type 0} (P : Phrase A) (p : Reader A) (S : List Tok → Type 0) (Q : Phrase B) (q : Reader B) (T : List Tok → Type 0) (first : IsRead P p S) (second : IsRead Q q T)
    (stops : (middle : List Tok) (tree : B) (rest : List Tok) → Q middle tree rest → T rest → S middle) where
  both_sound : (tokens : List Tok) (x : (A × B) × List Tok) → both p q tokens ≡ Some x → (P & Q) tokens x.0 x.1
  both_sound tokens x e =
      let y = then_is (λ (y : A × List Tok). option_map (λ (z : B × List Tok). ((y.0, z.0), z.1)) (q y.1)) (p tokens) x e in
      let z = mapped_is (λ (z : B × List Tok). ((y.0.0, z.0), z.1)) (q y.0.1) x y.2 in
      subst (λ (w : (A × B) × List Tok). (P & Q) tokens w.0 w.1) (sym z.2) (y.0.1, first.sound tokens y.0 y.1, second.sound y.0.1 z.0 z.1)

  both_complete : (tokens : List Tok) (tree : A × B) (rest : List Tok) → (P & Q) tokens tree rest → T rest → both p q tokens ≡ Some (tree, rest)
  both_complete tokens tree rest h s =
      rw (first.complete tokens tree.0 h.0 h.1 (stops h.0 tree.1 rest h.2 s), second.complete h.0 tree.1 rest h.2 s) refl

  pub both_is_read : IsRead (P & Q) (both p q) T
  both_is_read = record {
    sound = both_sound;
    complete = both_complete;
    within = λ tokens tree rest h. omega (arith, first.within tokens tree.0 h.0 h.1, second.within h.0 tree.1 rest h.2);
  }

pub both_law : {A B : Type 0} {P : Phrase A} {p : Reader A} {S : List Tok → Type 0} {Q : Phrase B} {q : Reader B} {T : List Tok → Type 0} → IsRead P p S → IsRead Q q T
    → ((middle : List Tok) (tree : B) (rest : List Tok) → Q middle tree rest → T rest → S middle) → IsRead (P & Q) (both p q) T
both_law {P = P} {p = p} {S = S} {Q = Q} {q = q} {T = T} first second stops = both_is_read P p S Q q T first second stops

-- the same where the first one is over by itself
pub then_law : {A B : Type 0} {P : Phrase A} {p : Reader A} {Q : Phrase B} {q : Reader B} {T : List Tok → Type 0} → IsRead P p Any → IsRead Q q T → IsRead (P & Q) (both p q) T
then_law first second = both_law first second (λ middle tree rest h s. tt)

-- ---- trees that are made

module _ {A B : Type 0} (make : A → B) (P : Phrase A) (p : Reader A) (S : List Tok → Type 0) (law : IsRead P p S) where
  made_sound : (tokens : List Tok) (x : B × List Tok) → with_tree make p tokens ≡ Some x → Made make P tokens x.0 x.1
  made_sound tokens x e =
      let y = mapped_is (λ (y : A × List Tok). (make y.0, y.1)) (p tokens) x e in
      subst (λ (w : B × List Tok). Made make P tokens w.0 w.1) (sym y.2) (y.0.0, refl, law.sound tokens y.0 y.1)

  made_complete : (tokens : List Tok) (tree : B) (rest : List Tok) → Made make P tokens tree rest → S rest → with_tree make p tokens ≡ Some (tree, rest)
  made_complete tokens tree rest h s =
      rw (law.complete tokens h.0 rest h.2 s) (ap (λ (tree : B). let o : Option (B × List Tok) = Some (tree, rest) in o) (sym h.1))

  pub made_is_read : IsRead (Made make P) (with_tree make p) S
  made_is_read = record {
    sound = made_sound;
    complete = made_complete;
    within = λ tokens tree rest h. law.within tokens h.0 rest h.2;
  }

pub made_law : {A B : Type 0} (make : A → B) {P : Phrase A} {p : Reader A} {S : List Tok → Type 0} → IsRead P p S → IsRead (Made make P) (with_tree make p) S
made_law make {P = P} {p = p} {S = S} law = made_is_read make P p S law

module _ {A B : Type 0} (make : A → Option B) (P : Phrase A) (p : Reader A) (S : List Tok → Type 0) (law : IsRead P p S) where
  kept_sound : (tokens : List Tok) (x : B × List Tok) → with_tree_if make p tokens ≡ Some x → Kept make P tokens x.0 x.1
  kept_sound tokens x e =
      let y = then_is (λ (y : A × List Tok). option_map (λ (tree : B). (tree, y.1)) (make y.0)) (p tokens) x e in
      let z = mapped_is (λ (tree : B). (tree, y.0.1)) (make y.0.0) x y.2 in
      subst (λ (w : B × List Tok). Kept make P tokens w.0 w.1) (sym z.2) (y.0.0, z.1, law.sound tokens y.0 y.1)

  kept_complete : (tokens : List Tok) (tree : B) (rest : List Tok) → Kept make P tokens tree rest → S rest → with_tree_if make p tokens ≡ Some (tree, rest)
  kept_complete tokens tree rest h s = rw (law.complete tokens h.0 rest h.2 s, h.1) refl

  pub kept_is_read : IsRead (Kept make P) (with_tree_if make p) S
  kept_is_read = record {
    sound = kept_sound;
    complete = kept_complete;
    within = λ tokens tree rest h. law.within tokens h.0 rest h.2;
  }

pub kept_law : {A B : Type 0} (make : A → Option B) {P : Phrase A} {p : Reader A} {S : List Tok → Type 0} → IsRead P p S → IsRead (Kept make P) (with_tree_if make p) S
kept_law make {P = P} {p = p} {S = S} law = kept_is_read make P p S law

-- ---- one phrase or another

module _ {A : Type 0} (test : Tok → Bool) (P : Phrase A) (p : Reader A) (Q : Phrase A) (q : Reader A) (S : List Tok → Type 0) (first : IsRead P p S) (second : IsRead Q q S)
    (other : (tokens : List Tok) (tree : A) (rest : List Tok) → Q tokens tree rest → S rest → Not test tokens) where
  either_sound : (tokens : List Tok) (x : A × List Tok) → either test p q tokens ≡ Some x → ((test ▹ P) ∣ Q) tokens x.0 x.1
  either_sound [] x e = inr (second.sound [] x e)
  either_sound (token ∷ tokens) x e = elim (cases_Bool (test token)) [
    | inl here ↦ inl (here, first.sound tokens x (rw here at e))
    | inr none ↦ inr (second.sound (token ∷ tokens) x (rw none at e))
  ]

  else_complete : (tokens : List Tok) (result : Option (A × List Tok)) → Not test tokens → q tokens ≡ result → either test p q tokens ≡ result
  else_complete [] result none e = e
  else_complete (token ∷ tokens) result none e = rw none e

  either_complete : (tokens : List Tok) (tree : A) (rest : List Tok) → ((test ▹ P) ∣ Q) tokens tree rest → S rest → either test p q tokens ≡ Some (tree, rest)
  either_complete [] tree rest (inl h) s = absurd h
  either_complete (token ∷ tokens) tree rest (inl h) s = rw h.0 (first.complete tokens tree rest h.1 s)
  either_complete tokens tree rest (inr h) s = else_complete tokens (Some (tree, rest)) (other tokens tree rest h s) (second.complete tokens tree rest h s)

  either_within : (tokens : List Tok) (tree : A) (rest : List Tok) → ((test ▹ P) ∣ Q) tokens tree rest → length rest ≤ length tokens
  either_within tokens tree rest (inl h) = omega (arith, after_strict test P p S first tokens tree rest h)
  either_within tokens tree rest (inr h) = second.within tokens tree rest h

  pub either_is_read : IsRead ((test ▹ P) ∣ Q) (either test p q) S
  either_is_read = record { sound = either_sound; complete = either_complete; within = either_within }

pub either_law : {A : Type 0} (test : Tok → Bool) {P : Phrase A} {p : Reader A} {Q : Phrase A} {q : Reader A} {S : List Tok → Type 0} → IsRead P p S → IsRead Q q S
    → ((tokens : List Tok) (tree : A) (rest : List Tok) → Q tokens tree rest → S rest → Not test tokens) → IsRead ((test ▹ P) ∣ Q) (either test p q) S
either_law test {P = P} {p = p} {Q = Q} {q = q} {S = S} first second other = either_is_read test P p Q q S first second other

module _ {A : Type 0} (begins : List Tok → Bool) (P : Phrase A) (p : Reader A) (Q : Phrase A) (q : Reader A) (S : List Tok → Type 0) (first : IsRead P p S) (second : IsRead Q q S)
    (one_begins : (tokens : List Tok) (tree : A) (rest : List Tok) → P tokens tree rest → begins tokens ≡ true)
    (other : (tokens : List Tok) (tree : A) (rest : List Tok) → Q tokens tree rest → S rest → begins tokens ≡ false) where
  if_sound : (tokens : List Tok) (x : A × List Tok) → either_if begins p q tokens ≡ Some x → (P ∣ Q) tokens x.0 x.1
  if_sound tokens x e = elim (cases_Bool (begins tokens)) [
    | inl here ↦ inl (first.sound tokens x (rw here at e))
    | inr none ↦ inr (second.sound tokens x (rw none at e))
  ]

  if_complete : (tokens : List Tok) (tree : A) (rest : List Tok) → (P ∣ Q) tokens tree rest → S rest → either_if begins p q tokens ≡ Some (tree, rest)
  if_complete tokens tree rest (inl h) s = rw (one_begins tokens tree rest h) (first.complete tokens tree rest h s)
  if_complete tokens tree rest (inr h) s = rw (other tokens tree rest h s) (second.complete tokens tree rest h s)

  if_within : (tokens : List Tok) (tree : A) (rest : List Tok) → (P ∣ Q) tokens tree rest → length rest ≤ length tokens
  if_within tokens tree rest (inl h) = first.within tokens tree rest h
  if_within tokens tree rest (inr h) = second.within tokens tree rest h

  pub if_is_read : IsRead (P ∣ Q) (either_if begins p q) S
  if_is_read = record { sound = if_sound; complete = if_complete; within = if_within }

pub either_if_law : {A : Type 0} (begins : List Tok → Bool) {P : Phrase A} {p : Reader A} {Q : Phrase A} {q : Reader A} {S : List Tok → Type 0} → IsRead P p S → IsRead Q q S
    → ((tokens : List Tok) (tree : A) (rest : List Tok) → P tokens tree rest → begins tokens ≡ true)
    → ((tokens : List Tok) (tree : A) (rest : List Tok) → Q tokens tree rest → S rest → begins tokens ≡ false) → IsRead (P ∣ Q) (either_if begins p q) S
either_if_law begins {P = P} {p = p} {Q = Q} {q = q} {S = S} first second one_begins other = if_is_read begins P p Q q S first second one_begins other

-- ---- a phrase or nothing

module _ {A : Type 0} (test : Tok → Bool) (P : Phrase A) (p : Reader A) (S T : List Tok → Type 0) (law : IsRead P p S) (stops : (rest : List Tok) → T rest → Not test rest × S rest) where
  maybe_sound : (tokens : List Tok) (x : Option A × List Tok) → maybe test p tokens ≡ Some x → Maybe (test ▹ P) tokens x.0 x.1
  maybe_sound [] x e =
      let pair : Option A × List Tok = (None, []) in
      subst (λ (w : Option A × List Tok). Maybe (test ▹ P) [] w.0 w.1) (some_is pair x e) refl
  maybe_sound (token ∷ tokens) x e = elim (cases_Bool (test token)) [
    | inl here ↦ (let y = mapped_is (λ (y : A × List Tok). (let o : Option A = Some y.0 in o, y.1)) (p tokens) x (rw here at e) in
        subst (λ (w : Option A × List Tok). Maybe (test ▹ P) (token ∷ tokens) w.0 w.1) (sym y.2) (here, law.sound tokens y.0 y.1))
    | inr none ↦ (let pair : Option A × List Tok = (None, token ∷ tokens) in
        let k : (let o : Option (Option A × List Tok) = Some pair in o) ≡ Some x = rw none at e in
        subst (λ (w : Option A × List Tok). Maybe (test ▹ P) (token ∷ tokens) w.0 w.1) (some_is pair x k) refl)
  ]

  nothing_complete : (tokens : List Tok) → Not test tokens → maybe test p tokens ≡ Some (None, tokens)
  nothing_complete [] none = refl
  nothing_complete (token ∷ tokens) none = rw none refl

  maybe_complete : (tokens : List Tok) (tree : Option A) (rest : List Tok) → Maybe (test ▹ P) tokens tree rest → T rest → maybe test p tokens ≡ Some (tree, rest)
  maybe_complete tokens None rest h t =
      subst (λ (us : List Tok). maybe test p us ≡ Some (None, rest)) (sym h) (nothing_complete rest (stops rest t).0)
  maybe_complete [] (Some tree) rest h t = absurd h
  maybe_complete (token ∷ tokens) (Some tree) rest h t = rw (h.0, law.complete tokens tree rest h.1 (stops rest t).1) refl

  maybe_within : (tokens : List Tok) (tree : Option A) (rest : List Tok) → Maybe (test ▹ P) tokens tree rest → length rest ≤ length tokens
  maybe_within tokens None rest h = omega (arith, ap length h)
  maybe_within tokens (Some tree) rest h = omega (arith, after_strict test P p S law tokens tree rest h)

  pub maybe_is_read : IsRead (Maybe (test ▹ P)) (maybe test p) T
  maybe_is_read = record { sound = maybe_sound; complete = maybe_complete; within = maybe_within }

pub maybe_law : {A : Type 0} (test : Tok → Bool) {P : Phrase A} {p : Reader A} {S : List Tok → Type 0} (T : List Tok → Type 0) → IsRead P p S → ((rest : List Tok) → T rest → Not test rest × S rest)
    → IsRead (Maybe (test ▹ P)) (maybe test p) T
maybe_law test {P = P} {p = p} {S = S} T law stops = maybe_is_read test P p S T law stops
