-- Phrases joined by a keyword: what is read is one, and each is read.
use Rattle.std.proofs.Common.{◌≡◌, ℕ, zero, suc, ◌≤◌, Bool, true, List, [], ◌∷◌, length, Option, Some, refl, sym, ap, subst, ◌∙◌, inl, inr, arith}
use Rattle.std.proofs.lemmas.Bool.{cases_Bool}
use Rattle.mt_types.proofs.OptionLemmas.{then_is, some_is}
use Rattle.mt_tokens.specs.Tokens.{Tok}
use Rattle.mt_phrases.specs.Phrases.{Phrase, ◌▹◌, Many}
use Rattle.mt_phrases.specs.Readers.{Reader}
use Rattle.mt_phrases.proofs.PhraseLaws.{IsRead, Not, after_strict}
use Rattle.mt_cond_syntax.specs.Joins.{grouped, Joined, joins, joined}

module _ {A : Type 0} (word : Tok → Bool) (join : A → A → A) (P : Phrase A) (p : Reader A) (S T : List Tok → Type 0) (law : IsRead P p S)
    (at_word : (token : Tok) (rest : List Tok) → word token ≡ true → S (token ∷ rest))
    (at_end : (rest : List Tok) → T rest → Not word rest × S rest) where
  abbrev JoinsOf : A → List Tok → A × List Tok → Type 0
  JoinsOf found tokens x = (trees : List A) × (x.0 ≡ grouped join found trees) × Many (word ▹ P) tokens trees x.1

  none_more : (found : A) (tokens : List Tok) (x : A × List Tok) → (let o : Option (A × List Tok) = Some (found, tokens) in o) ≡ Some x → JoinsOf found tokens x
  none_more found tokens x e =
      let pair : A × List Tok = (found, tokens) in
      subst (JoinsOf found tokens) (some_is pair x e) ([], refl, refl)

  joins_sound : (count : ℕ) (found : A) (tokens : List Tok) (x : A × List Tok) → joins word join p count found tokens ≡ Some x → JoinsOf found tokens x
  unfolding joins
  joins_sound zero found tokens x e = none_more found tokens x e
  joins_sound (suc count) found [] x e = none_more found [] x e
  joins_sound (suc count) found (token ∷ tokens) x e = elim (cases_Bool (word token)) [
    | inl here ↦
        let y = then_is (λ (y : A × List Tok). joins word join p count (join found y.0) y.1) (p tokens) x (rw here at e) in
        let m = joins_sound count (join found y.0.0) y.0.1 x y.2 in
        (y.0.0 ∷ m.0, m.1, (y.0.1, (here, law.sound tokens y.0 y.1), m.2))
    | inr other ↦ none_more found (token ∷ tokens) x (rw other at e)
  ]

  end_of : (tokens : List Tok) (trees : List A) (rest : List Tok) → Many (word ▹ P) tokens trees rest → T rest → S tokens
  end_of tokens [] rest h t = subst S (sym h) (at_end rest t).1
  end_of [] (tree ∷ trees) rest h t = absurd h.1
  end_of (token ∷ tokens) (tree ∷ trees) rest h t = at_word token tokens h.1.0

  no_more : (count : ℕ) (found : A) (tokens : List Tok) → Not word tokens → joins word join p count found tokens ≡ Some (found, tokens)
  unfolding joins
  no_more zero found tokens none = refl
  no_more (suc count) found [] none = refl
  no_more (suc count) found (token ∷ tokens) none = rw none refl

  joins_complete : (count : ℕ) (found : A) (tokens : List Tok) (trees : List A) (rest : List Tok) → length tokens ≤ count → Many (word ▹ P) tokens trees rest → T rest
      → joins word join p count found tokens ≡ Some (grouped join found trees, rest)
  unfolding joins
  joins_complete count found tokens [] rest room h t =
      subst (λ (us : List Tok). joins word join p count found us ≡ Some (found, rest)) (sym h) (no_more count found rest (at_end rest t).0)
  joins_complete count found [] (tree ∷ trees) rest room h t = absurd h.1
  joins_complete zero found (token ∷ tokens) (tree ∷ trees) rest room h t = absurd (omega arith)
  joins_complete (suc count) found (token ∷ tokens) (tree ∷ trees) rest room h t =
      let one = law.complete tokens tree h.0 h.1.1 (end_of h.0 trees rest h.2 t) in
      let less : length h.0 ≤ length tokens = law.within tokens tree h.0 h.1.1 in
      let others = joins_complete count (join found tree) h.0 trees rest (omega arith) h.2 t in
      rw (h.1.0, one) others

  many_within : (tokens : List Tok) (trees : List A) (rest : List Tok) → Many (word ▹ P) tokens trees rest → length rest ≤ length tokens
  many_within tokens [] rest h = omega (arith, ap length h)
  many_within tokens (tree ∷ trees) rest h = omega (arith, after_strict word P p S law tokens tree h.0 h.1, many_within h.0 trees rest h.2)

  joined_sound : (tokens : List Tok) (x : A × List Tok) → joined word join p tokens ≡ Some x → Joined word join P tokens x.0 x.1
  joined_sound tokens x e =
      let y = then_is (λ (y : A × List Tok). joins word join p (length y.1) y.0 y.1) (p tokens) x e in
      let m = joins_sound (length y.0.1) y.0.0 y.0.1 x y.2 in
      ((y.0.0, m.0), m.1, (y.0.1, law.sound tokens y.0 y.1, m.2))

  joined_complete : (tokens : List Tok) (tree : A) (rest : List Tok) → Joined word join P tokens tree rest → T rest → joined word join p tokens ≡ Some (tree, rest)
  joined_complete tokens tree rest h t =
      let one = law.complete tokens h.0.0 h.2.0 h.2.1 (end_of h.2.0 h.0.1 rest h.2.2 t) in
      let others = joins_complete (length h.2.0) h.0.0 h.2.0 h.0.1 rest (omega arith) h.2.2 t in
      rw one (others ∙ ap (λ (tree : A). let o : Option (A × List Tok) = Some (tree, rest) in o) (sym h.1))

  pub joined_is_read : IsRead (Joined word join P) (joined word join p) T
  joined_is_read = record {
    sound = joined_sound;
    complete = joined_complete;
    within = λ tokens tree rest h. omega (arith, law.within tokens h.0.0 h.2.0 h.2.1, many_within h.2.0 h.0.1 rest h.2.2);
  }

pub joined_law : {A : Type 0} (word : Tok → Bool) (join : A → A → A) {P : Phrase A} {p : Reader A} {S : List Tok → Type 0} (T : List Tok → Type 0) → IsRead P p S
    → ((token : Tok) (rest : List Tok) → word token ≡ true → S (token ∷ rest)) → ((rest : List Tok) → T rest → Not word rest × S rest) → IsRead (Joined word join P) (joined word join p) T
joined_law word join {P = P} {p = p} {S = S} T law at_word at_end = joined_is_read word join P p S T law at_word at_end
