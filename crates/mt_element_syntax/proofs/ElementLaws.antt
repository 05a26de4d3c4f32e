-- Names, types, columns and indexes: what is read is one, and each is read.
use Rattle.std.proofs.Common.{◌≡◌, ℕ, zero, suc, Bool, true, false, List, [], ◌∷◌, Option, Some, None, refl, sym, subst, inl, inr}
use Rattle.std.specs.Prelude.{codes}
use Rattle.mt_tokens.specs.declared.sign.Sign.TheVariants.{Open, Close, Comma}
use Rattle.mt_tokens.specs.Tokens.{Tok}
use Rattle.mt_tokens.specs.Words.{is_keyword, is_word, is_sign, name_of}
use Rattle.mt_phrases.specs.Phrases.{Phrase, One, ◌▹◌, ◌◃◌, ◌&◌, Maybe, Made, Perhaps, first_is, second_is, IsNumber, Chain, InParens, IsText, ◌∣◌, singleton}
use Rattle.mt_phrases.specs.Terminals.{number_in_token, is_text, tree_if, is_number, text_in_token}
use Rattle.mt_phrases.specs.Readers.{Reader, chain, to_close, number_at}
use Rattle.mt_phrases.proofs.PhraseLaws.{IsRead, Any, Not, narrowed, one_law, after_law, both_law, then_law, made_law, either_law, either_if_law, maybe_law}
use Rattle.mt_phrases.proofs.ListLaws.{chain_law, closed_law, parens_law, perhaps_law}
use Rattle.mt_phrases.proofs.TokenTests.{Apart, keys_apart, words_apart, signs_apart, key_no_sign, name_no_sign, number_is, given_is, one_begins, after_begins, maybe_begins, perhaps_begins, Lacks, text_is, text_no_number}
use Rattle.mt_element_syntax.specs.declared.limits.TheConstants.{MAX_TYPE_DEPTH}
use Rattle.mt_element_syntax.specs.declared.tree.TypeText.{TypeText}
use Rattle.mt_element_syntax.specs.declared.tree.TypeArg.{TypeArg}
use Rattle.mt_element_syntax.specs.declared.tree.TypeArg.TheVariants as arg
use Rattle.mt_element_syntax.specs.declared.tree.CodecText.{CodecText}
use Rattle.mt_element_syntax.specs.declared.tree.IndexKind.{IndexKind}
use Rattle.mt_element_syntax.specs.declared.tree.IndexKind.TheVariants.{Minmax, Set}
use Rattle.mt_element_syntax.specs.declared.tree.Element.{Element}
use Rattle.mt_element_syntax.specs.Grammar.{IsName, IsWord, IsList, IsKey, IsArg, IsType, IsCodec, IsCodecs, IsKind}
use Rattle.mt_element_syntax.specs.Trees.{type_of, codec_of, column_element_of, index_of}
use Rattle.mt_element_syntax.specs.Terminals.{word_of}
use Rattle.mt_element_syntax.specs.Reading.{name_at, word_at, names_at, name_list_at, key_at, arg_at, type_at, codec_at, codecs_at, column_element_at, kind_at, index_at}
use Rattle.mt_element_syntax.proofs.TokenTests.{word_no_number, word_no_text}

-- ---- one token

pub name_law : IsRead IsName name_at Any
name_law = one_law name_of

pub word_law : IsRead IsWord word_at Any
word_law = one_law word_of

pub number_law : IsRead IsNumber number_at Any
number_law = one_law number_in_token

pub close_no_comma : Apart (is_sign Close) (is_sign Comma)
close_no_comma = signs_apart Close Comma refl

pub close_no_open : Apart (is_sign Close) (is_sign Open)
close_no_open = signs_apart Close Open refl

pub comma_no_open : Apart (is_sign Comma) (is_sign Open)
comma_no_open = signs_apart Comma Open refl

-- ---- lists of names

pub names_law : IsRead (Chain IsName) names_at (Not (is_sign Comma))
names_law = chain_law (Not (is_sign Comma)) name_law (λ token rest e. tt) (λ rest s. (s, tt))

pub closed_names_law : IsRead (Chain IsName ◃ is_sign Close) (to_close names_at) Any
closed_names_law = closed_law names_law (λ token rest e. close_no_comma token e)

pub list_law : IsRead IsList name_list_at (Not (is_sign Comma))
list_law =
    either_law (is_sign Open) (narrowed (Not (is_sign Comma)) closed_names_law (λ rest s. tt)) names_law
    (λ tokens tree rest h s. one_begins name_of (is_sign Open) (name_no_sign Open) tokens h.0.0 h.2.0 h.2.1)

pub key_law : IsRead IsKey key_at Any
key_law =
    either_law (is_sign Open) closed_names_law (made_law singleton name_law)
    (λ tokens tree rest h s. one_begins name_of (is_sign Open) (name_no_sign Open) tokens h.0 rest h.2)

-- ---- types

abbrev pub NoOpen : List Tok → Type 0
NoOpen = Not (is_sign Open)

pub name_is_over : (tokens : List Tok) (name : List ℕ) (rest : List Tok) → IsName tokens name rest → NoOpen rest → second_is (is_sign Open) tokens ≡ false
name_is_over [] name rest h s = absurd h
name_is_over (token ∷ tokens) name rest h s = subst (λ (us : List Tok). Not (is_sign Open) us) (sym h.1) s

-- neither a comma nor an opening parenthesis
abbrev pub NoMore : List Tok → Type 0
NoMore rest = Not (is_sign Comma) rest × NoOpen rest

-- a word, which a type begins with, is neither digits nor a text
type_begins : (test : Tok → Bool) → Lacks word_of test → (depth : ℕ) (tokens : List Tok) (tree : TypeText) (rest : List Tok) → IsType depth tokens tree rest → Not test tokens
unfolding IsType
type_begins test lacks zero tokens tree rest h = one_begins word_of test lacks tokens h.0 rest h.2
type_begins test lacks (suc depth) tokens tree rest h = one_begins word_of test lacks tokens h.0.0 h.2.0 h.2.1

-- what is made of one token begins with that token
made_begins : {A : Type 0} (tree_of : Tok → Option A) (test : Tok → Bool) (make : A → TypeArg) → ((token : Tok) (tree : A) → tree_of token ≡ Some tree → test token ≡ true)
    → (tokens : List Tok) (tree : TypeArg) (rest : List Tok) → Made make (One tree_of) tokens tree rest → first_is test tokens ≡ true
made_begins tree_of test make is [] tree rest h = absurd h.2
made_begins tree_of test make is (token ∷ tokens) tree rest h = is token h.0 h.2.0

-- arguments, where what reads types reads the phrase
module _ (P : Phrase TypeText) (p : Reader TypeText) (law : IsRead P p NoOpen)
    (begins : (test : Tok → Bool) → Lacks word_of test → (tokens : List Tok) (tree : TypeText) (rest : List Tok) → P tokens tree rest → Not test tokens) where
  no_number : (tokens : List Tok) (tree : TypeArg) (rest : List Tok) → (Made arg.Text IsText ∣ Made arg.Type P) tokens tree rest → first_is is_number tokens ≡ false
  no_number tokens tree rest (inl h) = one_begins text_in_token is_number text_no_number tokens h.0 rest h.2
  no_number tokens tree rest (inr h) = begins is_number word_no_number tokens h.0 rest h.2

  arg_law : IsRead (IsArg P) (arg_at p) NoOpen
  arg_law =
      either_if_law (first_is is_number) (narrowed NoOpen (made_law arg.Number number_law) (λ rest s. tt))
      (either_if_law (first_is is_text) (narrowed NoOpen (made_law arg.Text (one_law text_in_token)) (λ rest s. tt)) (made_law arg.Type law)
      (made_begins text_in_token is_text arg.Text text_is) (λ tokens tree rest h s. begins is_text word_no_text tokens h.0 rest h.2))
      (made_begins number_in_token is_number arg.Number number_is) (λ tokens tree rest h s. no_number tokens tree rest h)

  args_law : IsRead (Chain (IsArg P)) (chain (arg_at p)) NoMore
  args_law = chain_law NoMore arg_law (λ token rest e. comma_no_open token e) (λ rest s. s)

pub type_law : (depth : ℕ) → IsRead (IsType depth) (type_at depth) NoOpen
unfolding IsType type_at
type_law zero = narrowed NoOpen (made_law (λ word. type_of (word, None)) word_law) (λ rest s. tt)
type_law (suc depth) =
    let args = args_law (IsType depth) (type_at depth) (type_law depth) (λ test lacks. type_begins test lacks depth) in
    made_law type_of (then_law word_law
    (maybe_law (is_sign Open) NoOpen (closed_law args (λ token rest e. (close_no_comma token e, close_no_open token e))) (λ rest s. (s, tt))))

-- ---- columns

pub codec_law : IsRead IsCodec codec_at NoOpen
codec_law = made_law codec_of (then_law word_law (maybe_law (is_sign Open) NoOpen (closed_law number_law (λ token rest e. tt)) (λ rest s. (s, tt))))

-- nothing follows that a column may end with
abbrev pub EndsColumn : List Tok → Type 0
EndsColumn rest = NoOpen rest × Not (is_keyword (codes "COMMENT")) rest × Not (is_keyword (codes "CODEC")) rest

codecs_law : IsRead (Maybe IsCodecs) codecs_at EndsColumn
codecs_law =
    let codecs = chain_law NoMore codec_law (λ token rest e. comma_no_open token e) (λ rest s. s) in
    maybe_law (is_keyword (codes "CODEC")) EndsColumn (parens_law codecs (λ token rest e. (close_no_comma token e, close_no_open token e))) (λ rest s. (s.2, tt))

abbrev IsCommented : Phrase (Option (List CodecText))
IsCommented = Perhaps (is_keyword (codes "COMMENT") ∷ is_text ∷ []) (Maybe IsCodecs)

comment_begins : (middle : List Tok) (tree : Option (List CodecText)) (rest : List Tok) → IsCommented middle tree rest → EndsColumn rest → NoOpen middle
comment_begins middle tree rest h s =
    perhaps_begins (is_keyword (codes "COMMENT")) (is_sign Open) (is_text ∷ []) (Maybe IsCodecs) (key_no_sign (codes "COMMENT") Open) middle tree rest h
    (maybe_begins (is_keyword (codes "CODEC")) (is_sign Open) (InParens (Chain IsCodec)) (key_no_sign (codes "CODEC") Open) h.0 tree rest h.2 s.0)

-- a column, whatever it begins with
abbrev pub IsAnyColumn : Phrase Element
IsAnyColumn = Made column_element_of (IsName & IsType MAX_TYPE_DEPTH & IsCommented)

pub column_law : IsRead IsAnyColumn column_element_at EndsColumn
unfolding column_element_at
column_law =
    let comment = perhaps_law (is_keyword (codes "COMMENT")) (is_text ∷ []) codecs_law
    (λ tokens tree rest h s. maybe_begins (is_keyword (codes "CODEC")) (is_keyword (codes "COMMENT")) (InParens (Chain IsCodec)) (keys_apart (codes "CODEC") (codes "COMMENT") refl) tokens tree rest h s.1) in
    made_law column_element_of (then_law name_law (both_law (type_law MAX_TYPE_DEPTH) comment comment_begins))

-- ---- indexes

minmax_begins : (tokens : List Tok) (tree : IndexKind) (rest : List Tok) → One (tree_if (is_word (codes "minmax")) Minmax) tokens tree rest → first_is (is_word (codes "minmax")) tokens ≡ true
minmax_begins [] tree rest h = absurd h
minmax_begins (token ∷ tokens) tree rest h = given_is (is_word (codes "minmax")) Minmax token tree h.0

pub kind_law : IsRead IsKind kind_at Any
kind_law =
    either_if_law (first_is (is_word (codes "minmax"))) (one_law (tree_if (is_word (codes "minmax")) Minmax))
    (after_law (is_word (codes "set")) (made_law Set (parens_law number_law (λ token rest e. tt))))
    minmax_begins
    (λ tokens tree rest h s. after_begins (is_word (codes "set")) (is_word (codes "minmax")) (Made Set (InParens IsNumber)) (words_apart (codes "set") (codes "minmax") refl) tokens tree rest h)

abbrev pub NoGranularity : List Tok → Type 0
NoGranularity = Not (is_keyword (codes "GRANULARITY"))

-- an index behind INDEX
abbrev pub IsIndexBody : Phrase Element
IsIndexBody =
    Made index_of (IsName & IsName & (is_keyword (codes "TYPE") ▹ (IsKind & Maybe (is_keyword (codes "GRANULARITY") ▹ IsNumber))))

pub index_law : IsRead IsIndexBody index_at NoGranularity
unfolding index_at
index_law =
    let granularity = maybe_law (is_keyword (codes "GRANULARITY")) NoGranularity number_law (λ rest s. (s, tt)) in
    made_law index_of (then_law name_law (then_law name_law (after_law (is_keyword (codes "TYPE")) (then_law kind_law granularity))))
