-- Prefixes of texts, and what stands between parentheses.
use Rattle.std.proofs.Common.{◌≡◌, ◌≢◌, inl, inr, ℕ, List, [], ◌∷◌, ◌++◌, Option, Some, None, refl, ap, sym, ◌∙◌, append_assoc, Bor}
use Rattle.std.proofs.lemmas.Bool.{eq-eqb}
use Rattle.std.proofs.lemmas.Bool.Decides.{eqb_tells}
use Rattle.std.specs.Prelude.{option_map, option_and_then, option_copied, MatchOption}
use Rattle.mt_types.proofs.OptionLemmas.{mapped_is, then_is}
use Rattle.mt_types.specs.NameReading.{after_prefix, before_close, between}

-- a prefix and what follows it
pub after_prefix_of : (prefix text rest : List ℕ) → text ≡ prefix ++ rest → after_prefix prefix text ≡ Some rest
after_prefix_of [] text rest e = ap Some e
after_prefix_of (p ∷ prefix) [] rest e = cc
after_prefix_of (p ∷ prefix) (b ∷ text) rest e =
    let first : p ≡ b = cc in
    let others : text ≡ prefix ++ rest = cc in
    rw (eq-eqb p b first) (after_prefix_of prefix text rest others)

-- no prefix
pub after_prefix_none : (prefix text : List ℕ) → ((rest : List ℕ) → text ≢ prefix ++ rest) → after_prefix prefix text ≡ None
after_prefix_none [] text h = absurd (h text refl)
after_prefix_none (p ∷ prefix) [] h = refl
after_prefix_none (p ∷ prefix) (b ∷ text) h =
    elim (eqb_tells p b) [
      | inl same ↦ rw same.0 (after_prefix_none prefix text (λ rest e. h rest (ap (λ c. c ∷ text) (sym same.1) ∙ ap (λ s. p ∷ s) e)))
      | inr other ↦ rw other.0 refl
    ]

-- what is taken as a prefix is one
pub after_prefix_is : (prefix text rest : List ℕ) → after_prefix prefix text ≡ Some rest → text ≡ prefix ++ rest
after_prefix_is [] text rest e = cc
after_prefix_is (p ∷ prefix) [] rest e = cc
after_prefix_is (p ∷ prefix) (b ∷ text) rest e =
    elim (eqb_tells p b) [
      | inl same ↦ ap (λ c. c ∷ text) (sym same.1) ∙ ap (λ s. p ∷ s) (after_prefix_is prefix text rest (rw same.0 at e))
      | inr other ↦ let never : None ≡ Some rest = rw other.0 at e in cc
    ]

-- what stands before a closing parenthesis
pub before_close_of : (text inner : List ℕ) → text ≡ inner ++ 41 ∷ [] → before_close text ≡ Some inner
before_close_of [] [] e = cc
before_close_of [] (i ∷ inner) e = cc
before_close_of (b ∷ []) [] e = let close : b ≡ 41 = cc in rw close refl
before_close_of (b ∷ []) (i ∷ []) e = cc
before_close_of (b ∷ []) (i ∷ j ∷ inner) e = cc
before_close_of (b ∷ c ∷ text) [] e = cc
before_close_of (b ∷ c ∷ text) (i ∷ inner) e =
    let first : b ≡ i = cc in
    let others : c ∷ text ≡ inner ++ 41 ∷ [] = cc in
    ap (option_map (λ s. b ∷ s)) (before_close_of (c ∷ text) inner others) ∙ ap (λ v. Some (v ∷ inner)) first

-- what is taken as closed is closed
pub before_close_is : (text inner : List ℕ) → before_close text ≡ Some inner → text ≡ inner ++ 41 ∷ []
before_close_is [] inner e = cc
before_close_is (b ∷ []) inner e =
    elim (eqb_tells b 41) [
      | inl same ↦ let is : Some [] ≡ Some inner = rw same.0 at e in let none : inner ≡ [] = cc in ap (λ v. v ∷ []) same.1 ∙ ap (λ s. s ++ 41 ∷ []) (sym none)
      | inr other ↦ let never : None ≡ Some inner = rw other.0 at e in cc
    ]
before_close_is (b ∷ c ∷ text) inner e =
    let rest = mapped_is (λ s. b ∷ s) (before_close (c ∷ text)) inner e in
    ap (λ s. b ∷ s) (before_close_is (c ∷ text) rest.0 rest.1) ∙ ap (λ s. s ++ 41 ∷ []) (sym rest.2)

-- what is not closed gives nothing
none_or : (text : List ℕ) (o : Option (List ℕ)) → before_close text ≡ o → ((inner : List ℕ) → text ≢ inner ++ 41 ∷ []) → o ≡ None
none_or text None e h = refl
none_or text (Some inner) e h = absurd (h inner (before_close_is text inner e))

-- no closing parenthesis
pub before_close_none : (text : List ℕ) → ((inner : List ℕ) → text ≢ inner ++ 41 ∷ []) → before_close text ≡ None
before_close_none text h = none_or text (before_close text) refl h

-- both
pub between_of : (opening text inner : List ℕ) → text ≡ opening ++ inner ++ 41 ∷ [] → between opening text ≡ Some inner
between_of opening text inner e =
    ap (option_and_then before_close) (after_prefix_of opening text (inner ++ 41 ∷ []) (e ∙ append_assoc opening inner (41 ∷ [])))
    ∙ before_close_of (inner ++ 41 ∷ []) inner refl

-- what is taken as enclosed is enclosed
pub between_is : (opening text inner : List ℕ) → between opening text ≡ Some inner → text ≡ opening ++ inner ++ 41 ∷ []
between_is opening text inner e =
    let both = then_is before_close (after_prefix opening text) inner e in
    after_prefix_is opening text both.0 both.1 ∙ ap (λ s. opening ++ s) (before_close_is both.0 inner both.2) ∙ sym (append_assoc opening inner (41 ∷ []))

-- what std's calls say of them
pub strip_prefix_result : (text prefix : List ℕ) (r : Option (Bor (List ℕ)))
    → MatchOption r ((rest : List ℕ) → text ≢ prefix ++ rest) (λ x. text ≡ prefix ++ x.now) → option_copied r ≡ after_prefix prefix text
strip_prefix_result text prefix None h = sym (after_prefix_none prefix text h)
strip_prefix_result text prefix (Some x) h = sym (after_prefix_of prefix text x.now h)

-- the same of a closing parenthesis
pub strip_close_result : (text : List ℕ) (r : Option (Bor (List ℕ)))
    → MatchOption r ((inner : List ℕ) → text ≢ inner ++ 41 ∷ []) (λ x. text ≡ x.now ++ 41 ∷ []) → option_copied r ≡ before_close text
strip_close_result text None h = sym (before_close_none text h)
strip_close_result text (Some x) h = sym (before_close_of text x.now h)
