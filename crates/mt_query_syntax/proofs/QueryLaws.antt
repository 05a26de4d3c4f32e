-- The sentence of a query: what is read is one, and each is read.
use Rattle.std.proofs.Common.{◌≡◌, ℕ, Bool, true, false, List, [], ◌∷◌, Option, Some, Result, refl, sym, ap, subst, ◌∙◌, inl, inr}
use Rattle.std.specs.Prelude.{IfOk, codes, option_and_then}
use Rattle.mt_types.proofs.OptionLemmas.{then_is}
use Rattle.mt_tokens.specs.declared.sign.Sign.TheVariants.{Open, Comma, Dot, Semicolon}
use Rattle.mt_tokens.specs.Tokens.{Tok}
use Rattle.mt_tokens.specs.Words.{is_keyword, is_sign}
use Rattle.mt_tokens.specs.Lexis.{IsTokens}
use Rattle.mt_phrases.specs.declared.error.SyntaxError.{SyntaxError}
use Rattle.mt_phrases.specs.Answers.{GivesPhrase, GivesSentence}
use Rattle.mt_phrases.specs.Phrases.{Chain, IsNumber, Phrase, ◌▹◌, ◌&◌, Made, Maybe, OneEach, Perhaps, second_is}
use Rattle.mt_phrases.specs.Readers.{skip, whole_tree}
use Rattle.mt_phrases.specs.Selections.{IsSelected}
use Rattle.mt_phrases.specs.Terminals.{number_in_token}
use Rattle.mt_phrases.proofs.ListLaws.{Skips, chain_law, perhaps_if_law, skip_sound, skip_none, skip_all}
use Rattle.mt_phrases.proofs.PhraseLaws.{IsRead, Not, one_law, after_law, both_law, made_law, maybe_law}
use Rattle.mt_phrases.proofs.TokenTests.{Apart, keys_apart, key_no_sign, sign_no_key, after_begins, maybe_begins, skips_begin}
use Rattle.mt_phrases.proofs.SelectionLaws.{selects_law}
use Rattle.mt_phrases.proofs.TextLaws.{whole_is}
use Rattle.mt_phrases.proofs.TextLaws as laws
use Rattle.mt_cond_syntax.specs.declared.tree.CondText.{CondText}
use Rattle.mt_query_syntax.specs.declared.tree.QueryText.{QueryText}
use Rattle.mt_cond_syntax.specs.Grammar.{IsUnreservedName, IsCond}
use Rattle.mt_query_syntax.specs.Grammar.{IsWhere, IsQueryGroup, IsQueryOrder, IsFrom, IsQuery, IsQueryText}
use Rattle.mt_query_syntax.specs.Reading.{where_at, query_group_at, query_order_at, query_clauses_at, from_at, query_at, query_sentence_at}
use Rattle.mt_phrases.specs.NameRules.{name_in}
use Rattle.mt_cond_syntax.specs.Terminals.{is_unreserved_name}
use Rattle.mt_query_syntax.specs.Trees.{query_of}
use Rattle.mt_cond_syntax.proofs.CondLaws.{EndsCond, cond_law, name_law, NoComma}
use Rattle.mt_cond_syntax.proofs.QueryTests.{query_name_no_sign}

-- ---- clauses

abbrev where_key : Tok → Bool
where_key = is_keyword (codes "WHERE")

abbrev group_key : Tok → Bool
group_key = is_keyword (codes "GROUP")

abbrev order_key : Tok → Bool
order_key = is_keyword (codes "ORDER")

abbrev limit_key : Tok → Bool
limit_key = is_keyword (codes "LIMIT")

-- nothing follows that WHERE may go on with
abbrev EndsWhere : List Tok → Type 0
EndsWhere rest = Not where_key rest × EndsCond rest

where_law : IsRead IsWhere where_at EndsWhere
where_law = maybe_law where_key EndsWhere cond_law (λ rest s. s)

-- nothing follows that GROUP BY may go on with
abbrev EndsGroup : List Tok → Type 0
EndsGroup rest = Not group_key rest × NoComma rest

-- names behind BY
abbrev IsNames : Phrase (List (List ℕ))
IsNames = is_keyword (codes "BY") ▹ Chain IsUnreservedName

group_law : IsRead IsQueryGroup query_group_at EndsGroup
group_law =
    maybe_law group_key EndsGroup (after_law (is_keyword (codes "BY")) (chain_law NoComma name_law (λ token rest e. tt) (λ rest s. (s, tt)))) (λ rest s. s)

-- nothing follows that LIMIT may go on with
abbrev EndsOrder : List Tok → Type 0
EndsOrder rest = Not limit_key rest

order_law : IsRead IsQueryOrder query_order_at EndsOrder
order_law =
    after_law order_key (after_law (is_keyword (codes "BY")) (after_law (is_keyword (codes "ALL"))
    (maybe_law limit_key EndsOrder (one_law number_in_token) (λ rest s. (s, tt)))))

-- what stands behind ORDER
abbrev IsByAll : Phrase (Option ℕ)
IsByAll = is_keyword (codes "BY") ▹ is_keyword (codes "ALL") ▹ Maybe (limit_key ▹ IsNumber)

order_begins : (test : Tok → Bool) → Apart order_key test → (tokens : List Tok) (tree : Option ℕ) (rest : List Tok) → IsQueryOrder tokens tree rest → Not test tokens
order_begins test apart tokens tree rest h = after_begins order_key test IsByAll apart tokens tree rest h

group_begins : (test : Tok → Bool) → Apart group_key test → Apart order_key test → (tokens : List Tok) (tree : Option (List (List ℕ)) × Option ℕ) (rest : List Tok) → (IsQueryGroup & IsQueryOrder) tokens tree rest → Not test tokens
group_begins test group order tokens tree rest h =
    maybe_begins group_key test IsNames group tokens tree.0 h.0 h.1 (order_begins test order h.0 tree.1 rest h.2)

-- the clauses behind a table's name
abbrev IsClauses : Phrase (Option CondText × (Option (List (List ℕ)) × Option ℕ))
IsClauses = IsWhere & IsQueryGroup & IsQueryOrder

clauses_begin : (test : Tok → Bool) → Apart where_key test → Apart group_key test → Apart order_key test → (tokens : List Tok) (tree : Option CondText × (Option (List (List ℕ)) × Option ℕ)) (rest : List Tok) → IsClauses tokens tree rest → Not test tokens
clauses_begin test w group order tokens tree rest h =
    maybe_begins where_key test IsCond w tokens tree.0 h.0 h.1 (group_begins test group order h.0 tree.1 rest h.2)

order_ends : (middle : List Tok) (tree : Option ℕ) (rest : List Tok) → IsQueryOrder middle tree rest → EndsGroup middle
order_ends middle tree rest h = (
  order_begins group_key (keys_apart (codes "ORDER") (codes "GROUP") refl) middle tree rest h,
  order_begins (is_sign Comma) (key_no_sign (codes "ORDER") Comma) middle tree rest h,
)

group_ends : (middle : List Tok) (tree : Option (List (List ℕ)) × Option ℕ) (rest : List Tok) → (IsQueryGroup & IsQueryOrder) middle tree rest → EndsWhere middle
group_ends middle tree rest h = (
  group_begins where_key (keys_apart (codes "GROUP") (codes "WHERE") refl) (keys_apart (codes "ORDER") (codes "WHERE") refl) middle tree rest h,
  (
    group_begins (is_keyword (codes "OR")) (keys_apart (codes "GROUP") (codes "OR") refl) (keys_apart (codes "ORDER") (codes "OR") refl) middle tree rest h,
    group_begins (is_keyword (codes "AND")) (keys_apart (codes "GROUP") (codes "AND") refl) (keys_apart (codes "ORDER") (codes "AND") refl) middle tree rest h,
  ),
)

clauses_law : IsRead IsClauses query_clauses_at EndsOrder
clauses_law =
    both_law where_law (both_law group_law order_law (λ middle tree rest h s. order_ends middle tree rest h))
    (λ middle tree rest h s. group_ends middle tree rest h)

-- ---- FROM

-- a table's name and the clauses
abbrev IsTable : Phrase (Option CondText × (Option (List (List ℕ)) × Option ℕ))
IsTable = is_unreserved_name ▹ IsClauses

abbrev database : List (Tok → Bool)
database = is_unreserved_name ∷ is_sign Dot ∷ []

point_is_second : (tokens rest : List Tok) → OneEach database tokens rest → second_is (is_sign Dot) tokens ≡ true
point_is_second [] rest h = absurd h
point_is_second (token ∷ []) rest h = absurd h.1
point_is_second (token ∷ other ∷ tokens) rest h = h.1.0

no_point_is_second : (tokens : List Tok) (tree : Option CondText × (Option (List (List ℕ)) × Option ℕ)) (rest : List Tok) → IsTable tokens tree rest → second_is (is_sign Dot) tokens ≡ false
no_point_is_second [] tree rest h = absurd h
no_point_is_second (token ∷ tokens) tree rest h =
    clauses_begin (is_sign Dot) (key_no_sign (codes "WHERE") Dot) (key_no_sign (codes "GROUP") Dot) (key_no_sign (codes "ORDER") Dot) tokens tree rest h.1

from_law : IsRead IsFrom from_at EndsOrder
from_law =
    after_law (is_keyword (codes "FROM")) (perhaps_if_law (second_is (is_sign Dot)) database (after_law is_unreserved_name clauses_law) point_is_second
    (λ tokens tree rest h s. no_point_is_second tokens tree rest h))

from_begins : (test : Tok → Bool) → Apart (is_keyword (codes "FROM")) test → (tokens : List Tok) (tree : Option CondText × (Option (List (List ℕ)) × Option ℕ)) (rest : List Tok) → IsFrom tokens tree rest → Not test tokens
from_begins test apart tokens tree rest h = after_begins (is_keyword (codes "FROM")) test (Perhaps database IsTable) apart tokens tree rest h

-- ---- the whole

-- a query without its semicolon
abbrev IsOpenQuery : Phrase QueryText
IsOpenQuery = Made query_of (is_keyword (codes "SELECT") ▹ (IsSelected name_in & IsFrom))

query_law : IsRead IsOpenQuery query_at EndsOrder
query_law =
    made_law query_of (after_law (is_keyword (codes "SELECT")) (both_law (selects_law name_in query_name_no_sign) from_law
    (λ middle tree rest h s. (
      from_begins (is_sign Comma) (key_no_sign (codes "FROM") Comma) middle tree rest h,
      from_begins (is_sign Open) (key_no_sign (codes "FROM") Open) middle tree rest h,
    ))))

abbrev semicolon : Tok → Bool
semicolon = is_sign Semicolon

pub query_sound : (tokens : List Tok) (tree : QueryText) → query_sentence_at tokens ≡ Some tree → IsQuery tokens tree []
unfolding query_sentence_at
query_sound tokens tree e =
    let y = then_is (λ (x : QueryText × List Tok). option_and_then (whole_tree x.0) (skip semicolon [] x.1)) (query_at tokens) tree e in
    let z = then_is (whole_tree y.0.0) (skip semicolon [] y.0.1) tree y.2 in
    let w = whole_is y.0.0 tree z.0 z.2 in
    let read = query_law.sound tokens y.0 y.1 in
    (y.0.1, subst (λ (t : QueryText). IsOpenQuery tokens t y.0.1) w.1 read, (z.0, skip_sound semicolon [] y.0.1 z.0 z.1, w.0))

end_skipped : (tokens middle : List Tok) → Skips (semicolon ∷ []) tokens middle → middle ≡ [] → skip semicolon [] tokens ≡ Some []
end_skipped tokens middle (inl h) e = subst (λ (us : List Tok). skip semicolon [] us ≡ Some []) (sym (h ∙ e)) (skip_none semicolon [] [] refl)
end_skipped tokens middle (inr h) e = skip_all semicolon [] tokens middle h ∙ ap (λ (us : List Tok). let o : Option (List Tok) = Some us in o) e

end_begins : (tokens middle : List Tok) → Skips (semicolon ∷ []) tokens middle → middle ≡ [] → EndsOrder tokens
end_begins tokens middle h e =
    skips_begin semicolon limit_key [] (sign_no_key Semicolon (codes "LIMIT")) tokens middle h (subst (λ (us : List Tok). Not limit_key us) (sym e) refl)

pub query_complete : (tokens : List Tok) (tree : QueryText) → IsQuery tokens tree [] → query_sentence_at tokens ≡ Some tree
unfolding query_sentence_at
query_complete tokens tree h =
    let read = query_law.complete tokens tree h.0 h.1 (end_begins h.0 h.2.0 h.2.1 h.2.2) in
    rw (read, end_skipped h.0 h.2.0 h.2.1 h.2.2) refl

-- ---- the text

-- a query with nothing behind it
abbrev IsWhole : List Tok → QueryText → Type 0
IsWhole tokens tree = IsQuery tokens tree []

pub query_is_found : (text : List ℕ) (tokens : List Tok) (result : Result QueryText SyntaxError) → IsTokens text tokens → GivesPhrase (λ (x : QueryText). x) result (query_sentence_at tokens) → IfOk result (λ sentence. IsQueryText text sentence)
query_is_found = laws.sentence_is_found IsWhole query_sentence_at query_sound query_complete

pub query_is_only : (text : List ℕ) (tokens : List Tok) (result : Result QueryText SyntaxError) → ((others : List Tok) → IsTokens text others → others ≡ tokens) → GivesPhrase (λ (x : QueryText). x) result (query_sentence_at tokens)
    → (sentence : QueryText) → IsQueryText text sentence → GivesSentence result sentence
query_is_only = laws.sentence_is_only IsWhole query_sentence_at query_sound query_complete

pub one_query : (text : List ℕ) (a b : QueryText) → IsQueryText text a → IsQueryText text b → a ≡ b
one_query = laws.one_sentence IsWhole query_sentence_at query_sound query_complete
