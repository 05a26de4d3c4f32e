-- Conditions: what is read is one, and each is read.
use Rattle.std.proofs.Common.{◌≡◌, ℕ, zero, suc, Bool, true, false, List, [], ◌∷◌, refl, inl, inr}
use Rattle.std.specs.Prelude.{codes}
use Rattle.mt_tokens.specs.declared.sign.Sign.TheVariants.{Open, Close, Comma, Minus}
use Rattle.mt_tokens.specs.Tokens.{Tok}
use Rattle.mt_tokens.specs.Words.{is_keyword, is_word, is_sign}
use Rattle.mt_phrases.specs.Phrases.{Chain, InParens, Phrase, ◌▹◌, ◌◃◌, ◌&◌, ◌∣◌, Made, second_is}
use Rattle.mt_phrases.specs.Readers.{Reader, chain, in_parens}
use Rattle.mt_phrases.specs.Terminals.{tree_if}
use Rattle.mt_phrases.proofs.ListLaws.{chain_law, closed_law, parens_law}
use Rattle.mt_phrases.proofs.PhraseLaws.{IsRead, Any, Not, one_law, after_law, then_law, made_law, either_law, either_if_law}
use Rattle.mt_phrases.proofs.TokenTests.{Apart, Lacks, keys_apart, words_apart, signs_apart, key_no_sign, word_no_sign, sign_no_key, given_is, one_begins, after_begins, after_is, second_of, word_no_key}
use Rattle.mt_phrases.specs.Phrases.{IsText}
use Rattle.mt_phrases.specs.Terminals.{text_in_token}
use Rattle.mt_cond_syntax.specs.declared.limits.TheConstants.{MAX_COND_DEPTH}
use Rattle.mt_cond_syntax.specs.declared.tree.Literal.{Literal}
use Rattle.mt_cond_syntax.specs.declared.tree.CondText.{CondText}
use Rattle.mt_cond_syntax.specs.declared.tree.CondText.TheVariants as tree
use Rattle.mt_cond_syntax.specs.Grammar.{IsUnreservedName, IsLiteral, IsComparison, IsOneOf, IsNullOrNot, IsNullTest, IsStarts, IsHas, IsAtom, IsDisjunction, IsUnit, IsCond}
use Rattle.mt_cond_syntax.specs.Reading.{unreserved_name_at, literal_at, comparison_at, one_of_at, null_word_at, null_test_at, starts_at, has_at, test_at, atom_at, disjunction_at, unit_at, cond_at}
use Rattle.mt_phrases.specs.NameRules.{name_in}
use Rattle.mt_cond_syntax.specs.Terminals.{literal_of, negative_in, op_of}
use Rattle.mt_cond_syntax.specs.Trees.{comparison_of, one_of_of, null_test_of, starts_of, has_of}
use Rattle.mt_cond_syntax.proofs.JoinLaws.{joined_law}
use Rattle.mt_cond_syntax.proofs.QueryTests.{query_name_no_sign, query_name_no_not, literal_no_sign, op_no_key, op_no_open}

pub name_law : IsRead IsUnreservedName unreserved_name_at Any
name_law = one_law name_in

-- ---- literals

literal_law : IsRead IsLiteral literal_at Any
literal_law =
    either_law (is_sign Minus) (one_law negative_in) (one_law literal_of)
    (λ tokens tree rest h s. one_begins literal_of (is_sign Minus) (literal_no_sign Minus) tokens tree rest h)

abbrev pub NoComma : List Tok → Type 0
NoComma rest = Not (is_sign Comma) rest

abbrev IsLiterals : Phrase (List Literal)
IsLiterals = InParens (Chain IsLiteral)

literals_law : IsRead IsLiterals (in_parens (chain literal_at)) Any
literals_law =
    parens_law (chain_law NoComma literal_law (λ token rest e. tt) (λ rest s. (s, tt))) (λ token rest e. signs_apart Close Comma refl token e)

-- ---- conditions without others inside

comparison_law : IsRead IsComparison comparison_at Any
comparison_law = made_law comparison_of (then_law name_law (then_law (one_law op_of) literal_law))

one_of_law : IsRead IsOneOf one_of_at Any
one_of_law = made_law one_of_of (then_law name_law (after_law (is_keyword (codes "IN")) literals_law))

null_no_not : Lacks (tree_if (is_keyword (codes "NULL")) false) (is_keyword (codes "NOT"))
null_no_not token tree e = keys_apart (codes "NULL") (codes "NOT") refl token (given_is (is_keyword (codes "NULL")) false token tree e)

null_law : IsRead IsNullOrNot null_word_at Any
null_law =
    either_law (is_keyword (codes "NOT")) (one_law (tree_if (is_keyword (codes "NULL")) true)) (one_law (tree_if (is_keyword (codes "NULL")) false))
    (λ tokens tree rest h s. one_begins (tree_if (is_keyword (codes "NULL")) false) (is_keyword (codes "NOT")) null_no_not tokens tree rest h)

null_test_law : IsRead IsNullTest null_test_at Any
null_test_law = made_law null_test_of (then_law name_law (after_law (is_keyword (codes "IS")) null_law))

-- what stands behind startsWith
abbrev IsNameAndText : Phrase CondText
IsNameAndText = InParens (Made starts_of (IsUnreservedName & (is_sign Comma ▹ IsText)))

-- what stands behind has
abbrev IsNameAndLiteral : Phrase CondText
IsNameAndLiteral = InParens (Made has_of (IsUnreservedName & (is_sign Comma ▹ IsLiteral)))

starts_law : IsRead IsNameAndText starts_at Any
starts_law = parens_law (made_law starts_of (then_law name_law (after_law (is_sign Comma) (one_law text_in_token)))) (λ token rest e. tt)

has_law : IsRead IsNameAndLiteral has_at Any
has_law = parens_law (made_law has_of (then_law name_law (after_law (is_sign Comma) literal_law))) (λ token rest e. tt)

abbrev starts_word : Tok → Bool
starts_word = is_word (codes "startsWith")

abbrev has_word : Tok → Bool
has_word = is_word (codes "has")

test_law : IsRead (IsStarts ∣ IsHas) test_at Any
test_law =
    either_law starts_word starts_law (after_law has_word has_law)
    (λ tokens tree rest h s. after_begins has_word starts_word IsNameAndLiteral (words_apart (codes "has") (codes "startsWith") refl) tokens tree rest h)

test_opens : (tokens : List Tok) (tree : CondText) (rest : List Tok) → (IsStarts ∣ IsHas) tokens tree rest → second_is (is_sign Open) tokens ≡ true
test_opens [] tree rest (inl h) = absurd h
test_opens [] tree rest (inr h) = absurd h
test_opens (token ∷ tokens) tree rest (inl h) = after_is (is_sign Open) (Made starts_of (IsUnreservedName & (is_sign Comma ▹ IsText)) ◃ is_sign Close) tokens tree rest h.1
test_opens (token ∷ tokens) tree rest (inr h) = after_is (is_sign Open) (Made has_of (IsUnreservedName & (is_sign Comma ▹ IsLiteral)) ◃ is_sign Close) tokens tree rest h.1

one_of_is : (tokens : List Tok) (tree : CondText) (rest : List Tok) → IsOneOf tokens tree rest → second_is (is_keyword (codes "IN")) tokens ≡ true
one_of_is tokens tree rest h = second_of name_in (is_keyword (codes "IN")) true tokens h.2.0 h.0.0 h.2.1 (after_is (is_keyword (codes "IN")) IsLiterals h.2.0 h.0.1 rest h.2.2)

null_test_is : (tokens : List Tok) (tree : CondText) (rest : List Tok) → IsNullTest tokens tree rest → second_is (is_keyword (codes "IS")) tokens ≡ true
null_test_is tokens tree rest h = second_of name_in (is_keyword (codes "IS")) true tokens h.2.0 h.0.0 h.2.1 (after_is (is_keyword (codes "IS")) IsNullOrNot h.2.0 h.0.1 rest h.2.2)

-- the second token of a comparison is its sign
comparison_lacks : (test : Tok → Bool) → Lacks op_of test → (tokens : List Tok) (tree : CondText) (rest : List Tok) → IsComparison tokens tree rest → second_is test tokens ≡ false
comparison_lacks test lacks tokens tree rest h = second_of name_in test false tokens h.2.0 h.0.0 h.2.1 (one_begins op_of test lacks h.2.0 h.0.1.0 h.2.2.0 h.2.2.1)

null_test_lacks : (test : Tok → Bool) → Apart (is_keyword (codes "IS")) test → (tokens : List Tok) (tree : CondText) (rest : List Tok) → IsNullTest tokens tree rest → second_is test tokens ≡ false
null_test_lacks test apart tokens tree rest h = second_of name_in test false tokens h.2.0 h.0.0 h.2.1 (after_begins (is_keyword (codes "IS")) test IsNullOrNot apart h.2.0 h.0.1 rest h.2.2)

one_of_lacks : (test : Tok → Bool) → Apart (is_keyword (codes "IN")) test → (tokens : List Tok) (tree : CondText) (rest : List Tok) → IsOneOf tokens tree rest → second_is test tokens ≡ false
one_of_lacks test apart tokens tree rest h = second_of name_in test false tokens h.2.0 h.0.0 h.2.1 (after_begins (is_keyword (codes "IN")) test IsLiterals apart h.2.0 h.0.1 rest h.2.2)

-- what is neither a call nor an IN
abbrev IsLater : Phrase CondText
IsLater = IsNullTest ∣ IsComparison

-- what is no call
abbrev IsNamed : Phrase CondText
IsNamed = IsOneOf ∣ IsLater

later_no_in : (tokens : List Tok) (tree : CondText) (rest : List Tok) → IsLater tokens tree rest → second_is (is_keyword (codes "IN")) tokens ≡ false
later_no_in tokens tree rest (inl h) = null_test_lacks (is_keyword (codes "IN")) (keys_apart (codes "IS") (codes "IN") refl) tokens tree rest h
later_no_in tokens tree rest (inr h) = comparison_lacks (is_keyword (codes "IN")) (op_no_key (codes "IN")) tokens tree rest h

named_no_open : (tokens : List Tok) (tree : CondText) (rest : List Tok) → IsNamed tokens tree rest → second_is (is_sign Open) tokens ≡ false
named_no_open tokens tree rest (inl h) = one_of_lacks (is_sign Open) (key_no_sign (codes "IN") Open) tokens tree rest h
named_no_open tokens tree rest (inr (inl h)) = null_test_lacks (is_sign Open) (key_no_sign (codes "IS") Open) tokens tree rest h
named_no_open tokens tree rest (inr (inr h)) = comparison_lacks (is_sign Open) op_no_open tokens tree rest h

atom_law : IsRead IsAtom atom_at Any
unfolding atom_at
atom_law =
    either_if_law (second_is (is_sign Open)) test_law
    (either_if_law (second_is (is_keyword (codes "IN"))) one_of_law
    (either_if_law (second_is (is_keyword (codes "IS"))) null_test_law comparison_law null_test_is
    (λ tokens tree rest h s. comparison_lacks (is_keyword (codes "IS")) (op_no_key (codes "IS")) tokens tree rest h))
    one_of_is (λ tokens tree rest h s. later_no_in tokens tree rest h))
    test_opens (λ tokens tree rest h s. named_no_open tokens tree rest h)

-- what begins neither a call nor a name begins no such condition
atom_begins : (test : Tok → Bool) → Apart starts_word test → Apart has_word test → Lacks name_in test → (tokens : List Tok) (tree : CondText) (rest : List Tok) → IsAtom tokens tree rest → Not test tokens
atom_begins test starts has name tokens tree rest (inl (inl h)) = after_begins starts_word test IsNameAndText starts tokens tree rest h
atom_begins test starts has name tokens tree rest (inl (inr h)) = after_begins has_word test IsNameAndLiteral has tokens tree rest h
atom_begins test starts has name tokens tree rest (inr (inl h)) = one_begins name_in test name tokens h.0.0 h.2.0 h.2.1
atom_begins test starts has name tokens tree rest (inr (inr (inl h))) = one_begins name_in test name tokens h.0.0 h.2.0 h.2.1
atom_begins test starts has name tokens tree rest (inr (inr (inr h))) = one_begins name_in test name tokens h.0.0 h.2.0 h.2.1

-- ---- conditions

abbrev not_key : Tok → Bool
not_key = is_keyword (codes "NOT")

abbrev and_key : Tok → Bool
and_key = is_keyword (codes "AND")

abbrev or_key : Tok → Bool
or_key = is_keyword (codes "OR")

-- nothing follows that a conjunction may go on with
abbrev EndsConjunction : List Tok → Type 0
EndsConjunction rest = Not and_key rest

-- nothing follows that a condition may go on with
abbrev pub EndsCond : List Tok → Type 0
EndsCond rest = Not or_key rest × Not and_key rest

disjunction_law : {P : Phrase CondText} {p : Reader CondText} → IsRead P p Any → IsRead (IsDisjunction P) (disjunction_at p) EndsCond
disjunction_law law =
    joined_law or_key tree.Or EndsCond (joined_law and_key tree.And EndsConjunction law (λ token rest e. tt) (λ rest s. (s, tt)))
    (λ token rest e. keys_apart (codes "OR") (codes "AND") refl token e) (λ rest s. s)

nested_no_not : (P : Phrase CondText) (tokens : List Tok) (tree : CondText) (rest : List Tok) → (InParens P ∣ IsAtom) tokens tree rest → Not not_key tokens
nested_no_not P tokens tree rest (inl h) = after_begins (is_sign Open) not_key (P ◃ is_sign Close) (sign_no_key Open (codes "NOT")) tokens tree rest h
nested_no_not P tokens tree rest (inr h) =
    atom_begins not_key (word_no_key (codes "startsWith") (codes "NOT") refl) (word_no_key (codes "has") (codes "NOT") refl) query_name_no_not tokens tree rest h

unit_law : (depth : ℕ) → IsRead (IsUnit depth) (unit_at depth) Any
unfolding IsUnit unit_at
unit_law zero = atom_law
unit_law (suc depth) =
    either_law not_key (made_law tree.Not (unit_law depth))
    (either_law (is_sign Open) (closed_law (disjunction_law (unit_law depth)) (λ token rest e. (sign_no_key Close (codes "OR") token e, sign_no_key Close (codes "AND") token e))) atom_law
    (λ tokens tree rest h s. atom_begins (is_sign Open) (word_no_sign (codes "startsWith") Open) (word_no_sign (codes "has") Open) (query_name_no_sign Open) tokens tree rest h))
    (λ tokens tree rest h s. nested_no_not (IsDisjunction (IsUnit depth)) tokens tree rest h)

pub cond_law : IsRead IsCond cond_at EndsCond
cond_law = disjunction_law (unit_law MAX_COND_DEPTH)
