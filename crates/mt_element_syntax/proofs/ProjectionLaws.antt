-- Projections and elements: what is read is one, and each is read.
use Rattle.std.proofs.Common.{◌≡◌, ℕ, ◌≤◌, Bool, true, List, [], ◌∷◌, length, Option, Some, refl, inl, inr, arith}
use Rattle.std.specs.Prelude.{codes}
use Rattle.mt_tokens.specs.declared.sign.Sign.{Sign}
use Rattle.mt_tokens.specs.declared.sign.Sign.TheVariants.{Open, Close, Comma}
use Rattle.mt_tokens.specs.Tokens.{Tok}
use Rattle.mt_tokens.specs.Words.{is_keyword, is_sign, name_of}
use Rattle.std.proofs.lemmas.Bool.{cases_Bool}
use Rattle.mt_phrases.specs.Phrases.{Phrase, ◌▹◌, ◌&◌, ◌∣◌, Made, NotWith, InParens}
use Rattle.mt_phrases.specs.Selections.{IsSelected}
use Rattle.mt_phrases.specs.Readers.{Reader, either}
use Rattle.mt_phrases.proofs.PhraseLaws.{IsRead, Any, Not, after_strict, narrowed, after_law, both_law, then_law, made_law, maybe_law}
use Rattle.mt_phrases.proofs.ListLaws.{chain_law, parens_law}
use Rattle.mt_phrases.proofs.SelectionLaws.{selects_law}
use Rattle.mt_phrases.proofs.TokenTests.{Apart, keys_apart, key_no_sign, sign_no_key, name_no_sign, after_begins, maybe_begins}
use Rattle.mt_element_syntax.specs.declared.tree.Element.{Element}
use Rattle.mt_element_syntax.specs.Grammar.{IsName, IsList, IsGroup, IsOrder, IsElement, IsElements}
use Rattle.mt_element_syntax.specs.Trees.{projection_element_of}
use Rattle.mt_element_syntax.specs.Reading.{group_at, order_at, selection_at, projection_element_at, element_at, element_list_at}
use Rattle.mt_element_syntax.proofs.ElementLaws.{name_law, list_law, close_no_comma, close_no_open, comma_no_open, NoOpen, EndsColumn, NoGranularity, IsAnyColumn, column_law, IsIndexBody, index_law}

-- ---- projections

-- nothing follows that GROUP BY and ORDER BY may go on with
abbrev pub EndsSelection : List Tok → Type 0
EndsSelection rest =
    Not (is_sign Comma) rest × NoOpen rest × Not (is_keyword (codes "GROUP")) rest × Not (is_keyword (codes "ORDER")) rest

-- a list behind BY
abbrev IsByList : Phrase (List (List ℕ))
IsByList = is_keyword (codes "BY") ▹ IsList

order_law : IsRead IsOrder order_at EndsSelection
order_law = maybe_law (is_keyword (codes "ORDER")) EndsSelection (after_law (is_keyword (codes "BY")) list_law) (λ rest s. (s.3, s.0))

abbrev EndsGroup : List Tok → Type 0
EndsGroup rest = Not (is_keyword (codes "GROUP")) rest × Not (is_sign Comma) rest

group_law : IsRead IsGroup group_at EndsGroup
group_law = maybe_law (is_keyword (codes "GROUP")) EndsGroup (after_law (is_keyword (codes "BY")) list_law) (λ rest s. s)

order_ends : (middle : List Tok) (tree : Option (List (List ℕ))) (rest : List Tok) → IsOrder middle tree rest → EndsSelection rest → EndsGroup middle
order_ends middle tree rest h s = (
  maybe_begins (is_keyword (codes "ORDER")) (is_keyword (codes "GROUP")) IsByList (keys_apart (codes "ORDER") (codes "GROUP") refl) middle tree rest h s.2,
  maybe_begins (is_keyword (codes "ORDER")) (is_sign Comma) IsByList (key_no_sign (codes "ORDER") Comma) middle tree rest h s.0,
)

no_sign_begins : (sign : Sign) (middle : List Tok) (tree : Option (List (List ℕ)) × Option (List (List ℕ))) (rest : List Tok) → (IsGroup & IsOrder) middle tree rest → Not (is_sign sign) rest → Not (is_sign sign) middle
no_sign_begins sign middle tree rest h none =
    maybe_begins (is_keyword (codes "GROUP")) (is_sign sign) IsByList (key_no_sign (codes "GROUP") sign) middle tree.0 h.0 h.1
    (maybe_begins (is_keyword (codes "ORDER")) (is_sign sign) IsByList (key_no_sign (codes "ORDER") sign) h.0 tree.1 rest h.2 none)

selection_law : IsRead (is_keyword (codes "SELECT") ▹ (IsSelected name_of & IsGroup & IsOrder)) selection_at EndsSelection
selection_law =
    after_law (is_keyword (codes "SELECT")) (both_law (selects_law name_of name_no_sign) (both_law group_law order_law order_ends)
    (λ middle tree rest h s. (no_sign_begins Comma middle tree rest h s.0, no_sign_begins Open middle tree rest h s.1)))

-- a projection behind PROJECTION
abbrev pub IsProjectionBody : Phrase Element
IsProjectionBody =
    Made projection_element_of (IsName & InParens (is_keyword (codes "SELECT") ▹ (IsSelected name_of & IsGroup & IsOrder)))

pub projection_law : IsRead IsProjectionBody projection_element_at Any
unfolding projection_element_at
projection_law =
    made_law projection_element_of (then_law name_law (parens_law selection_law
    (λ token rest e. (close_no_comma token e, close_no_open token e, sign_no_key Close (codes "GROUP") token e, sign_no_key Close (codes "ORDER") token e))))

-- ---- elements

-- nothing follows that an element may go on with
abbrev pub EndsElement : List Tok → Type 0
EndsElement rest = EndsColumn rest × NoGranularity rest

-- a phrase by its first token, or else what doesn't begin so
module _ {A : Type 0} (test : Tok → Bool) (P : Phrase A) (p : Reader A) (Q : Phrase A) (q : Reader A) (S : List Tok → Type 0) (first : IsRead P p S) (second : IsRead Q q S) where
  first_sound : (tokens : List Tok) (x : A × List Tok) → either test p q tokens ≡ Some x → ((test ▹ P) ∣ NotWith test Q) tokens x.0 x.1
  first_sound [] x e = inr (refl, second.sound [] x e)
  first_sound (token ∷ tokens) x e = elim (cases_Bool (test token)) [
    | inl here ↦ inl (here, first.sound tokens x (rw here at e))
    | inr none ↦ inr (none, second.sound (token ∷ tokens) x (rw none at e))
  ]

  not_first : (tokens : List Tok) (result : Option (A × List Tok)) → Not test tokens → q tokens ≡ result → either test p q tokens ≡ result
  not_first [] result none e = e
  not_first (token ∷ tokens) result none e = rw none e

  first_complete : (tokens : List Tok) (tree : A) (rest : List Tok) → ((test ▹ P) ∣ NotWith test Q) tokens tree rest → S rest → either test p q tokens ≡ Some (tree, rest)
  first_complete [] tree rest (inl h) s = absurd h
  first_complete (token ∷ tokens) tree rest (inl h) s = rw h.0 (first.complete tokens tree rest h.1 s)
  first_complete tokens tree rest (inr h) s = not_first tokens (Some (tree, rest)) h.0 (second.complete tokens tree rest h.1 s)

  first_within : (tokens : List Tok) (tree : A) (rest : List Tok) → ((test ▹ P) ∣ NotWith test Q) tokens tree rest → length rest ≤ length tokens
  first_within tokens tree rest (inl h) = omega (arith, after_strict test P p S first tokens tree rest h)
  first_within tokens tree rest (inr h) = second.within tokens tree rest h.1

  pub first_is_read : IsRead ((test ▹ P) ∣ NotWith test Q) (either test p q) S
  first_is_read = record { sound = first_sound; complete = first_complete; within = first_within }

first_law : {A : Type 0} (test : Tok → Bool) {P : Phrase A} {p : Reader A} {Q : Phrase A} {q : Reader A} {S : List Tok → Type 0} → IsRead P p S → IsRead Q q S → IsRead ((test ▹ P) ∣ NotWith test Q) (either test p q) S
first_law test {P = P} {p = p} {Q = Q} {q = q} {S = S} first second = first_is_read test P p Q q S first second

alike : {A : Type 0} {P : Phrase A} {p : Reader A} {S : List Tok → Type 0} (Q : Phrase A) → IsRead P p S → ((tokens : List Tok) (tree : A) (rest : List Tok) → P tokens tree rest → Q tokens tree rest)
    → ((tokens : List Tok) (tree : A) (rest : List Tok) → Q tokens tree rest → P tokens tree rest) → IsRead Q p S
alike Q law there back = record {
  sound = λ tokens x e. there tokens x.0 x.1 (law.sound tokens x e);
  complete = λ tokens tree rest h s. law.complete tokens tree rest (back tokens tree rest h) s;
  within = λ tokens tree rest h. law.within tokens tree rest (back tokens tree rest h);
}

abbrev index_key : Tok → Bool
index_key = is_keyword (codes "INDEX")

abbrev projection_key : Tok → Bool
projection_key = is_keyword (codes "PROJECTION")

-- an element that isn't an index
abbrev IsLater : Phrase Element
IsLater = (projection_key ▹ IsProjectionBody) ∣ NotWith projection_key IsAnyColumn

-- an element by its first token
abbrev IsByFirst : Phrase Element
IsByFirst = (index_key ▹ IsIndexBody) ∣ NotWith index_key IsLater

later_there : (tokens : List Tok) (tree : Element) (rest : List Tok) → Not index_key tokens → IsLater tokens tree rest → IsElement tokens tree rest
later_there tokens tree rest none (inl h) = inr (inl h)
later_there tokens tree rest none (inr h) = inr (inr (none, h))

there : (tokens : List Tok) (tree : Element) (rest : List Tok) → IsByFirst tokens tree rest → IsElement tokens tree rest
there tokens tree rest (inl h) = inl h
there tokens tree rest (inr h) = later_there tokens tree rest h.0 h.1

back : (tokens : List Tok) (tree : Element) (rest : List Tok) → IsElement tokens tree rest → IsByFirst tokens tree rest
back tokens tree rest (inl h) = inl h
back tokens tree rest (inr (inl h)) = inr (after_begins projection_key index_key IsProjectionBody (keys_apart (codes "PROJECTION") (codes "INDEX") refl) tokens tree rest h, inl h)
back tokens tree rest (inr (inr h)) = inr (h.0, inr h.1)

element_law : IsRead IsElement element_at EndsElement
unfolding element_at
element_law =
    alike IsElement (first_law index_key (narrowed EndsElement index_law (λ rest s. s.1))
    (first_law projection_key (narrowed EndsElement projection_law (λ rest s. tt)) (narrowed EndsElement column_law (λ rest s. s.0)))) there back

-- nothing follows that elements may go on with
abbrev EndsElements : List Tok → Type 0
EndsElements rest = Not (is_sign Comma) rest × EndsElement rest

sign_ends : (sign : Sign) → Apart (is_sign sign) (is_sign Open) → (token : Tok) (rest : List Tok) → is_sign sign token ≡ true → EndsElement (token ∷ rest)
sign_ends sign no_open token rest e = (
  (no_open token e, sign_no_key sign (codes "COMMENT") token e, sign_no_key sign (codes "CODEC") token e),
  sign_no_key sign (codes "GRANULARITY") token e,
)

pub elements_law : IsRead IsElements element_list_at Any
elements_law =
    parens_law (chain_law EndsElements element_law (λ token rest e. sign_ends Comma comma_no_open token rest e) (λ rest s. s))
    (λ token rest e. (close_no_comma token e, sign_ends Close close_no_open token rest e))
