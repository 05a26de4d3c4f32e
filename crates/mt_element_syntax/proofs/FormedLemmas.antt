-- Every element of the grammar has a name that is one, and lists of at least one.
use Rattle.mt_phrases.proofs.PhrasesHold.{any_one, any_in_chain, any_made, any_both, any_maybe, any_parens}
use Rattle.std.proofs.Common.{◌≡◌, ℕ, zero, suc, arith, Bool, true, false, List, [], ◌∷◌, length, ap, sym, ◌∙◌, refl}
use Rattle.std.specs.Prelude.{if◌then◌else◌, nat_le, Option, Some, None}
use Rattle.std.specs.List.{list_all}
use Rattle.std.proofs.lemmas.Bool.{le-leb}
use Rattle.mt_types.proofs.StepLemmas.{both_of}
use Rattle.mt_tokens.specs.declared.sign.Sign.TheVariants.{Open, Close, Star}
use Rattle.mt_tokens.specs.Tokens.{Tok, Word, Quoted, Text, Digits, OfSign}
use Rattle.mt_types.specs.Words.{is_name, is_word_text}
use Rattle.mt_tokens.specs.Words.{is_sign, name_of}
use Rattle.mt_phrases.specs.declared.selection.Selected.{Selected}
use Rattle.mt_phrases.specs.declared.selection.Selected.TheVariants.{All, Items}
use Rattle.mt_phrases.specs.declared.selection.Selection.TheVariants as item
use Rattle.mt_phrases.specs.Phrases.{Chain, InParens, IsNumber, Phrase, One, ◌▹◌, ◌&◌, ◌∣◌, Maybe, Made, Perhaps, NotWith, IsText, singleton}
use Rattle.mt_phrases.specs.Selections.{IsCount, IsAggregate, IsItem, IsSelected}
use Rattle.mt_phrases.specs.Terminals.{agg_of, fixed, is_text, key, number_in_token, tree_if, text_in_token}
use Rattle.mt_element_syntax.specs.declared.limits.TheConstants.{MAX_TYPE_DEPTH}
use Rattle.mt_element_syntax.specs.declared.tree.CodecText.{CodecText}
use Rattle.mt_element_syntax.specs.declared.tree.Element.{Element}
use Rattle.mt_element_syntax.specs.declared.tree.IndexKind.{IndexKind}
use Rattle.mt_element_syntax.specs.declared.tree.IndexKind.TheVariants.{Minmax, Set}
use Rattle.mt_element_syntax.specs.declared.tree.TypeArg.{TypeArg}
use Rattle.mt_element_syntax.specs.declared.tree.TypeArg.TheVariants as arg
use Rattle.mt_element_syntax.specs.declared.tree.TypeText.{TypeText}
use Rattle.mt_element_syntax.specs.Grammar.{IsArg, IsCodec, IsCodecs, IsColumn, IsElement, IsElements, IsGroup, IsIndex, IsKey, IsKind, IsList, IsName, IsOrder, IsProjection, IsType, IsWord}
use Rattle.mt_element_syntax.specs.Terminals.{word_of}
use Rattle.mt_element_syntax.specs.Trees.{codec_of, column_element_of, index_of, projection_element_of, type_of}
use Rattle.mt_element_syntax.specs.Formed.{has_one, has_one_given, is_formed_element}
use Rattle.mt_phrases.proofs.PhrasesHold.{after_holds, any_holds, Any, both_hold, chain_holds, Each, EachOfSome, either_holds, Given, Good, Holds, in_parens_holds, made_holds, maybe_holds, not_with_holds, one_holds, perhaps_holds}

-- ---- names and lists

abbrev pub Named : List ℕ → Type 0
Named name = is_name name ≡ true

good_name : (token : Tok) (name : List ℕ) → Good token → name_of token ≡ Some name → Named name
good_name (Word word) name good e = by_test (nat_le (length word) 64) refl e
  where
    by_test : (b : Bool) → nat_le (length word) 64 ≡ b → (if b then Some word else None) ≡ Some name → Named name
    by_test true few e = let same : word ≡ name = cc in ap is_name (sym same) ∙ both_of (is_word_text word) _ good.1.0 few
    by_test false few e = cc
good_name (Quoted quoted) name good e = let same : quoted ≡ name = cc in ap is_name (sym same) ∙ good.1.0
good_name (Text text) name good e = cc
good_name (Digits digits) name good e = cc
good_name (OfSign sign) name good e = cc

pub names_hold : Holds IsName Named
names_hold = one_holds name_of Named good_name

abbrev pub Some' : {A : Type 0} → List A → Type 0
Some' list = has_one list ≡ true

pub some_of_each : {A : Type 0} (T : A → Type 0) (list : List A) → EachOfSome T list → Some' list
some_of_each T [] each = absurd each
some_of_each T (x ∷ xs) each = le-leb 1 (length (x ∷ xs)) (omega arith)

chain_some : Holds (Chain IsName) Some'
chain_some tokens tree rest p good =
    let both = chain_holds IsName Named names_hold tokens tree rest p good in (some_of_each Named tree both.0, both.1)

list_some : Holds IsList Some'
list_some = either_holds (InParens (Chain IsName)) (Chain IsName) Some' (in_parens_holds (Chain IsName) Some' chain_some) chain_some

one_some : (name : List ℕ) → Named name → Some' (singleton name)
one_some name named = refl

pub key_some : Holds IsKey Some'
key_some = either_holds (InParens (Chain IsName)) (Made singleton IsName) Some' (in_parens_holds (Chain IsName) Some' chain_some) (made_holds singleton IsName Named Some' one_some names_hold)

-- ---- columns

types_hold : (depth : ℕ) → Holds (IsType depth) Any
unfolding IsType
types_hold zero = any_made (λ word. type_of (word, None)) IsWord (any_one word_of)
types_hold (suc depth) =
    let Arg : Phrase TypeArg = IsArg (IsType depth) in
    any_made type_of (IsWord & Maybe (InParens (Chain Arg)))
    (any_both IsWord (Maybe (InParens (Chain Arg))) (any_one word_of)
    (any_maybe (InParens (Chain Arg)) (any_parens (Chain Arg) (any_in_chain Arg
    (either_holds (Made arg.Number IsNumber) (Made arg.Text IsText ∣ Made arg.Type (IsType depth)) Any (any_made arg.Number IsNumber (any_one number_in_token))
    (either_holds (Made arg.Text IsText) (Made arg.Type (IsType depth)) Any (any_made arg.Text IsText (any_one text_in_token)) (any_made arg.Type (IsType depth) (types_hold depth))))))))

codecs_hold : Holds IsCodecs Any
codecs_hold =
    after_holds (key "CODEC") (InParens (Chain IsCodec)) Any (any_parens (Chain IsCodec) (any_in_chain IsCodec
    (any_made codec_of (IsWord & Maybe (InParens IsNumber)) (any_both IsWord (Maybe (InParens IsNumber)) (any_one word_of) (any_maybe (InParens IsNumber) (any_parens IsNumber (any_one number_in_token)))))))

abbrev pub Formed : Element → Type 0
Formed e = is_formed_element e ≡ true

columns_hold : Holds IsColumn Formed
columns_hold =
    let Codecs : Phrase (Option (List CodecText)) = Perhaps (key "COMMENT" ∷ is_text ∷ []) (Maybe IsCodecs) in
    let Rest : Phrase (TypeText × Option (List CodecText)) = IsType MAX_TYPE_DEPTH & Codecs in
    not_with_holds (key "INDEX") (NotWith (key "PROJECTION") (Made column_element_of (IsName & Rest))) Formed
    (not_with_holds (key "PROJECTION") (Made column_element_of (IsName & Rest)) Formed
    (made_holds column_element_of (IsName & Rest) (λ x. Named x.0 × Any x.1) Formed (λ x holds. holds.0)
    (both_hold IsName Rest Named Any names_hold
    (any_both (IsType MAX_TYPE_DEPTH) Codecs (types_hold MAX_TYPE_DEPTH)
    (perhaps_holds (key "COMMENT" ∷ is_text ∷ []) (Maybe IsCodecs) Any (any_maybe IsCodecs codecs_hold))))))

-- ---- indexes

kinds_hold : Holds IsKind Any
kinds_hold =
    either_holds (One (tree_if (fixed "minmax") Minmax)) (fixed "set" ▹ Made Set (InParens IsNumber)) Any (any_one (tree_if (fixed "minmax") Minmax))
    (after_holds (fixed "set") (Made Set (InParens IsNumber)) Any (any_made Set (InParens IsNumber) (any_parens IsNumber (any_one number_in_token))))

indexes_hold : Holds IsIndex Formed
indexes_hold =
    let Granularity : Phrase (Option ℕ) = Maybe (key "GRANULARITY" ▹ IsNumber) in
    let Kinds : Phrase (IndexKind × Option ℕ) = key "TYPE" ▹ (IsKind & Granularity) in
    after_holds (key "INDEX") (Made index_of (IsName & IsName & Kinds)) Formed
    (made_holds index_of (IsName & IsName & Kinds) (λ x. Named x.0 × Any x.1) Formed (λ x holds. holds.0)
    (both_hold IsName (IsName & Kinds) Named Any names_hold
    (any_both IsName Kinds (any_holds IsName Named names_hold)
    (after_holds (key "TYPE") (IsKind & Granularity) Any
    (any_both IsKind Granularity kinds_hold (any_maybe (key "GRANULARITY" ▹ IsNumber) (after_holds (key "GRANULARITY") IsNumber Any (any_one number_in_token))))))))

-- ---- projections

abbrev SomeGiven : Option (List (List ℕ)) → Type 0
SomeGiven names = has_one_given names ≡ true

some_given : (names : Option (List (List ℕ))) → Given Some' names → SomeGiven names
some_given None given = refl
some_given (Some names) given = given

groups_hold : Holds IsGroup SomeGiven
groups_hold tokens tree rest p good =
    let List' : Phrase (List (List ℕ)) = key "GROUP" ▹ key "BY" ▹ IsList in
    let both = maybe_holds List' Some' (after_holds (key "GROUP") (key "BY" ▹ IsList) Some' (after_holds (key "BY") IsList Some' list_some)) tokens tree rest p good in
    (some_given tree both.0, both.1)

orders_hold : Holds IsOrder SomeGiven
orders_hold tokens tree rest p good =
    let List' : Phrase (List (List ℕ)) = key "ORDER" ▹ key "BY" ▹ IsList in
    let both = maybe_holds List' Some' (after_holds (key "ORDER") (key "BY" ▹ IsList) Some' (after_holds (key "BY") IsList Some' list_some)) tokens tree rest p good in
    (some_given tree both.0, both.1)

items_hold : Holds (IsItem name_of) Any
items_hold =
    either_holds (IsCount ∣ IsAggregate name_of) (Made item.Column IsName) Any
    (either_holds IsCount (IsAggregate name_of) Any
    (after_holds (key "count") (is_sign Open ▹ One (tree_if (is_sign Close) item.Count)) Any (after_holds (is_sign Open) (One (tree_if (is_sign Close) item.Count)) Any (any_one (tree_if (is_sign Close) item.Count))))
    (any_made (λ x. item.Of x.0 x.1) (One agg_of & InParens IsName) (any_both (One agg_of) (InParens IsName) (any_one agg_of) (any_parens IsName (any_one name_of)))))
    (any_made item.Column IsName (any_one name_of))

selected_hold : Holds (IsSelected name_of) Any
selected_hold =
    either_holds (One (tree_if (is_sign Star) All)) (Made Items (Chain (IsItem name_of))) Any (any_one (tree_if (is_sign Star) All))
    (any_made Items (Chain (IsItem name_of)) (any_in_chain (IsItem name_of) items_hold))

projections_hold : Holds IsProjection Formed
projections_hold =
    let Keys : Phrase (Option (List (List ℕ)) × Option (List (List ℕ))) = IsGroup & IsOrder in
    let Body : Phrase (Selected × (Option (List (List ℕ)) × Option (List (List ℕ)))) = InParens (key "SELECT" ▹ (IsSelected name_of & Keys)) in
    let Both : Selected × (Option (List (List ℕ)) × Option (List (List ℕ))) → Type 0 = λ x. Any x.0 × (SomeGiven x.1.0 × SomeGiven x.1.1) in
    after_holds (key "PROJECTION") (Made projection_element_of (IsName & Body)) Formed
    (made_holds projection_element_of (IsName & Body) (λ x. Named x.0 × Both x.1) Formed
    (λ x holds. both_of _ _ holds.0 (both_of _ _ holds.1.1.0 holds.1.1.1))
    (both_hold IsName Body Named Both names_hold
    (in_parens_holds (key "SELECT" ▹ (IsSelected name_of & Keys)) Both
    (after_holds (key "SELECT") (IsSelected name_of & Keys) Both
    (both_hold (IsSelected name_of) Keys Any (λ x. SomeGiven x.0 × SomeGiven x.1) selected_hold
    (both_hold IsGroup IsOrder SomeGiven SomeGiven groups_hold orders_hold))))))

-- ---- elements

pub elements_hold : Holds IsElements (Each Formed)
elements_hold =
    let elements : Holds IsElement Formed = either_holds IsIndex (IsProjection ∣ IsColumn) Formed indexes_hold (either_holds IsProjection IsColumn Formed projections_hold columns_hold) in
    in_parens_holds (Chain IsElement) (Each Formed) (λ tokens tree rest p good.
    let both = chain_holds IsElement Formed elements tokens tree rest p good in (each_of tree both.0, both.1))
  where
    each_of : (list : List Element) → EachOfSome Formed list → Each Formed list
    each_of [] each = absurd each
    each_of (x ∷ xs) each = each

pub all_formed : (elements : List Element) → Each Formed elements → list_all is_formed_element elements ≡ true
all_formed [] each = refl
all_formed (e ∷ elements) each = both_of _ _ each.0 (all_formed elements each.1)
