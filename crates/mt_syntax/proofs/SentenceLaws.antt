-- The sentence: what is read is one, and each is read.
use Rattle.std.proofs.Common.{◌≡◌, ℕ, Bool, true, false, List, [], ◌∷◌, Option, Some, Result, refl, sym, ap, subst, ◌∙◌, inl, inr}
use Rattle.std.specs.Prelude.{IfOk, codes, option_and_then}
use Rattle.mt_types.proofs.OptionLemmas.{then_is}
use Rattle.mt_tokens.specs.declared.sign.Sign.TheVariants.{Open, Close, Comma, Dot, Semicolon}
use Rattle.mt_tokens.specs.Tokens.{Tok}
use Rattle.mt_tokens.specs.Words.{is_keyword, is_sign}
use Rattle.mt_tokens.specs.Lexis.{IsTokens}
use Rattle.mt_phrases.specs.declared.error.SyntaxError.{SyntaxError}
use Rattle.mt_phrases.specs.Phrases.{Phrase, ◌◃◌, ◌&◌, ◌◂◌, OneEach, Kept, Perhaps, second_is, Chain}
use Rattle.mt_phrases.specs.Terminals.{is_text}
use Rattle.mt_phrases.specs.Readers.{with_tree_if, one_each, skip, skip_if, whole_tree}
use Rattle.mt_phrases.specs.Answers.{GivesPhrase, GivesSentence}
use Rattle.mt_phrases.proofs.PhraseLaws.{IsRead, Not, then_law, kept_law}
use Rattle.mt_phrases.proofs.ListLaws.{Skips, one_each_sound, one_each_complete, skip_sound, skip_none, skip_all, skip_if_sound, perhaps_law, perhaps_if_law}
use Rattle.mt_phrases.proofs.TokenTests.{Apart, keys_apart, signs_apart, key_no_sign, sign_no_key, after_begins, skips_begin}
use Rattle.mt_phrases.proofs.TextLaws.{whole_is}
use Rattle.mt_phrases.proofs.TextLaws as laws
use Rattle.mt_syntax.specs.declared.tree.TableText.{TableText}
use Rattle.mt_element_syntax.specs.declared.tree.Element.{Element}
use Rattle.mt_syntax.specs.declared.clause.Clauses.{Clauses}
use Rattle.mt_element_syntax.specs.Grammar.{IsName, IsElement, IsElements}
use Rattle.mt_syntax.specs.Grammar.{IsEngine, IsBody, IsEnd, IsSentence, IsTableText}
use Rattle.mt_syntax.specs.Trees.{sentence_of}
use Rattle.mt_element_syntax.specs.Terminals.{is_name_token}
use Rattle.mt_syntax.specs.Reading.{is_clause_key, body_at, end_at, rest_at, sentence_at}
use Rattle.mt_syntax.proofs.TokenTests.{comment_no_clause, sign_no_clause}
use Rattle.mt_element_syntax.proofs.ElementLaws.{name_law}
use Rattle.mt_element_syntax.proofs.ProjectionLaws.{elements_law}
use Rattle.mt_syntax.proofs.ClauseLaws.{EndsClauses, engine_law}

-- ---- the table's name, elements and clauses

abbrev uuid_key : Tok → Bool
uuid_key = is_keyword (codes "UUID")

abbrev IsDefinition : Phrase (List Element × Clauses)
IsDefinition = Perhaps (uuid_key ∷ is_text ∷ []) (IsElements & IsEngine)

abbrev IsNamed : Phrase (List ℕ × (List Element × Clauses))
IsNamed = IsName & IsDefinition

opens : (test : Tok → Bool) → Apart (is_sign Open) test → (tokens : List Tok) (tree : List Element × Clauses) (rest : List Tok) → (IsElements & IsEngine) tokens tree rest → Not test tokens
opens test apart tokens tree rest h = after_begins (is_sign Open) test (Chain IsElement ◃ is_sign Close) apart tokens tree.0 h.0 h.1

definition_begins : (test : Tok → Bool) → Apart uuid_key test → Apart (is_sign Open) test → (tokens : List Tok) (tree : List Element × Clauses) (rest : List Tok) → IsDefinition tokens tree rest → Not test tokens
definition_begins test u o tokens tree rest h = skips_begin uuid_key test (is_text ∷ []) u tokens h.0 h.1 (opens test o h.0 tree rest h.2)

second_begins : (test : Tok → Bool) → Apart uuid_key test → Apart (is_sign Open) test → (tokens : List Tok) (tree : List ℕ × (List Element × Clauses)) (rest : List Tok) → IsNamed tokens tree rest → second_is test tokens ≡ false
second_begins test u o [] tree rest h = absurd h.1
second_begins test u o (token ∷ tokens) tree rest h =
    subst (λ (us : List Tok). Not test us) (sym h.1.1) (definition_begins test u o h.0 tree.1 rest h.2)

point_is_second : (tokens rest : List Tok) → OneEach (is_name_token ∷ is_sign Dot ∷ []) tokens rest → second_is (is_sign Dot) tokens ≡ true
point_is_second [] rest h = absurd h
point_is_second (token ∷ []) rest h = absurd h.1
point_is_second (token ∷ other ∷ tokens) rest h = h.1.0

body_law : IsRead IsBody body_at EndsClauses
unfolding body_at
body_law =
    let definition = perhaps_law uuid_key (is_text ∷ []) (then_law elements_law engine_law) (λ tokens tree rest h s. opens uuid_key (sign_no_key Open (codes "UUID")) tokens tree rest h) in
    perhaps_if_law (second_is (is_sign Dot)) (is_name_token ∷ is_sign Dot ∷ []) (then_law name_law definition) point_is_second
    (λ tokens tree rest h s. second_begins (is_sign Dot) (key_no_sign (codes "UUID") Dot) (signs_apart Open Dot refl) tokens tree rest h)

-- ---- the end

abbrev comment_key : Tok → Bool
comment_key = is_keyword (codes "COMMENT")

abbrev semicolon : Tok → Bool
semicolon = is_sign Semicolon

end_sound : (tokens rest : List Tok) → end_at tokens ≡ Some rest → IsEnd tokens tt rest
end_sound tokens rest e =
    let m = then_is (skip semicolon []) (skip comment_key (is_text ∷ []) tokens) rest e in
    (m.0, skip_sound comment_key (is_text ∷ []) tokens m.0 m.1, (rest, skip_sound semicolon [] m.0 rest m.2, refl))

-- what ends in ; and no more begins with nothing else
tail_begins : (test : Tok → Bool) → Apart semicolon test → (tokens rest : List Tok) → Skips (semicolon ∷ []) tokens rest → rest ≡ [] → Not test tokens
tail_begins test apart tokens rest h e = skips_begin semicolon test [] apart tokens rest h (subst (λ (us : List Tok). Not test us) (sym e) refl)

end_begins : (test : Tok → Bool) → Apart comment_key test → Apart semicolon test → (tokens : List Tok) → IsEnd tokens tt [] → Not test tokens
end_begins test c s tokens h = skips_begin comment_key test (is_text ∷ []) c tokens h.0 h.1 (tail_begins test s h.0 h.2.0 h.2.1 h.2.2)

skipped : (test : Tok → Bool) (tests : List (Tok → Bool)) (tokens middle : List Tok) → Skips (test ∷ tests) tokens middle → Not test middle → skip test tests tokens ≡ Some middle
skipped test tests tokens middle (inl h) none = subst (λ (us : List Tok). skip test tests us ≡ Some middle) (sym h) (skip_none test tests middle none)
skipped test tests tokens middle (inr h) none = skip_all test tests tokens middle h

end_complete : (tokens : List Tok) → IsEnd tokens tt [] → end_at tokens ≡ Some []
end_complete tokens h =
    let first = skipped comment_key (is_text ∷ []) tokens h.0 h.1 (tail_begins comment_key (sign_no_key Semicolon (codes "COMMENT")) h.0 h.2.0 h.2.1 h.2.2) in
    let second = skipped semicolon [] h.0 h.2.0 h.2.1 (subst (λ (us : List Tok). Not semicolon us) (sym h.2.2) refl) in
    rw first (second ∙ ap (λ (us : List Tok). let o : Option (List Tok) = Some us in o) h.2.2)

-- ---- the whole

-- the sentence behind IF NOT EXISTS
abbrev IsRest : Phrase TableText
IsRest = Kept sentence_of IsBody ◂ IsEnd

rest_sound : (tokens : List Tok) (tree : TableText) → rest_at tokens ≡ Some tree → IsRest tokens tree []
unfolding rest_at
rest_sound tokens tree e =
    let y = then_is (λ (x : TableText × List Tok). option_and_then (whole_tree x.0) (end_at x.1)) (with_tree_if sentence_of body_at tokens) tree e in
    let z = then_is (whole_tree y.0.0) (end_at y.0.1) tree y.2 in
    let w = whole_is y.0.0 tree z.0 z.2 in
    let read = (kept_law sentence_of body_law).sound tokens y.0 y.1 in
    (y.0.1, subst (λ (t : TableText). Kept sentence_of IsBody tokens t y.0.1) w.1 read, subst (λ (us : List Tok). IsEnd y.0.1 tt us) w.0 (end_sound y.0.1 z.0 z.1))

rest_complete : (tokens : List Tok) (tree : TableText) → IsRest tokens tree [] → rest_at tokens ≡ Some tree
unfolding rest_at
rest_complete tokens tree h =
    let ends : EndsClauses h.0 = (
      end_begins is_clause_key comment_no_clause (sign_no_clause Semicolon) h.0 h.2,
      (
        end_begins (is_sign Comma) (key_no_sign (codes "COMMENT") Comma) (signs_apart Semicolon Comma refl) h.0 h.2,
        end_begins (is_sign Open) (key_no_sign (codes "COMMENT") Open) (signs_apart Semicolon Open refl) h.0 h.2,
      ),
    ) in
    let read = (kept_law sentence_of body_law).complete tokens tree h.0 h.1 ends in
    rw (read, end_complete h.0 h.2) refl

abbrev not_key : Tok → Bool
not_key = is_keyword (codes "NOT")

abbrev exists_tests : List (Tok → Bool)
exists_tests = is_keyword (codes "IF") ∷ not_key ∷ is_keyword (codes "EXISTS") ∷ []

not_is_second : (tokens rest : List Tok) → OneEach exists_tests tokens rest → second_is not_key tokens ≡ true
not_is_second [] rest h = absurd h
not_is_second (token ∷ []) rest h = absurd h.1
not_is_second (token ∷ other ∷ tokens) rest h = h.1.0

-- the name of a database and a point, or none, then the table's name: NOT is no second token of them
body_begins : (tokens middle : List Tok) (tree : List ℕ × (List Element × Clauses)) (rest : List Tok) → Skips (is_name_token ∷ is_sign Dot ∷ []) tokens middle → IsNamed middle tree rest → second_is not_key tokens ≡ false
body_begins tokens middle tree rest (inl e) h =
    subst (λ (us : List Tok). second_is not_key us ≡ false) (sym e) (second_begins not_key (keys_apart (codes "UUID") (codes "NOT") refl) (sign_no_key Open (codes "NOT")) middle tree rest h)
body_begins [] middle tree rest (inr m) h = absurd m
body_begins (token ∷ []) middle tree rest (inr m) h = absurd m.1
body_begins (token ∷ other ∷ tokens) middle tree rest (inr m) h = sign_no_key Dot (codes "NOT") other m.1.0

rest_begins : (tokens : List Tok) (tree : TableText) → IsRest tokens tree [] → second_is not_key tokens ≡ false
rest_begins tokens tree h = body_begins tokens h.1.2.0 h.1.0 h.0 h.1.2.1 h.1.2.2

exists_skipped : (tokens middle : List Tok) → Skips exists_tests tokens middle → second_is not_key middle ≡ false → skip_if (second_is not_key) exists_tests tokens ≡ Some middle
exists_skipped tokens middle (inl e) none = subst (λ (us : List Tok). skip_if (second_is not_key) exists_tests us ≡ Some middle) (sym e) (rw none refl)
exists_skipped tokens middle (inr m) none = rw (not_is_second tokens middle m) (one_each_complete exists_tests tokens middle m)

abbrev create_tests : List (Tok → Bool)
create_tests = is_keyword (codes "CREATE") ∷ is_keyword (codes "TABLE") ∷ []

-- a sentence with nothing behind it
abbrev IsWhole : List Tok → TableText → Type 0
IsWhole tokens tree = IsSentence tokens tree []

create_sound : (tokens middle : List Tok) (tree : TableText) → OneEach create_tests tokens middle → Perhaps exists_tests IsRest middle tree [] → IsSentence tokens tree []
create_sound [] middle tree m h = absurd m
create_sound (token ∷ []) middle tree m h = absurd m.1
create_sound (token ∷ other ∷ tokens) middle tree m h = (m.0, (m.1.0, subst (λ (us : List Tok). Perhaps exists_tests IsRest us tree []) (sym m.1.1) h))

pub sentence_sound : (tokens : List Tok) (tree : TableText) → sentence_at tokens ≡ Some tree → IsSentence tokens tree []
unfolding sentence_at
sentence_sound tokens tree e =
    let y = then_is (λ (named : List Tok). option_and_then rest_at (skip_if (second_is not_key) exists_tests named)) (one_each create_tests tokens) tree e in
    let z = then_is rest_at (skip_if (second_is not_key) exists_tests y.0) tree y.2 in
    create_sound tokens y.0 tree (one_each_sound create_tests tokens y.0 y.1)
    (z.0, skip_if_sound (second_is not_key) exists_tests y.0 z.0 z.1, rest_sound z.0 tree z.2)

pub sentence_complete : (tokens : List Tok) (tree : TableText) → IsSentence tokens tree [] → sentence_at tokens ≡ Some tree
unfolding sentence_at
sentence_complete [] tree h = absurd h
sentence_complete (token ∷ []) tree h = absurd h.1
sentence_complete (token ∷ other ∷ tokens) tree h =
    let p = h.1.1 in
    rw (h.0, h.1.0, exists_skipped tokens p.0 p.1 (rest_begins p.0 tree p.2), rest_complete p.0 tree p.2) refl

-- ---- the text

pub sentence_is_found : (text : List ℕ) (tokens : List Tok) (result : Result TableText SyntaxError) → IsTokens text tokens → GivesPhrase (λ (x : TableText). x) result (sentence_at tokens) → IfOk result (λ sentence. IsTableText text sentence)
sentence_is_found = laws.sentence_is_found IsWhole sentence_at sentence_sound sentence_complete

pub sentence_is_only : (text : List ℕ) (tokens : List Tok) (result : Result TableText SyntaxError) → ((others : List Tok) → IsTokens text others → others ≡ tokens) → GivesPhrase (λ (x : TableText). x) result (sentence_at tokens)
    → (sentence : TableText) → IsTableText text sentence → GivesSentence result sentence
sentence_is_only = laws.sentence_is_only IsWhole sentence_at sentence_sound sentence_complete

pub one_sentence : (text : List ℕ) (a b : TableText) → IsTableText text a → IsTableText text b → a ≡ b
one_sentence = laws.one_sentence IsWhole sentence_at sentence_sound sentence_complete
