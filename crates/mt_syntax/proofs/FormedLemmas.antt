-- Every sentence of the grammar has names that are names, and lists of at least one.
use Rattle.mt_element_syntax.proofs.FormedLemmas.{Named, names_hold, Some', key_some, Formed, elements_hold, all_formed}
use Rattle.mt_phrases.proofs.PhrasesHold.{any_one, any_in_chain, any_made, any_both, any_parens}
use Rattle.std.proofs.Common.{◌≡◌, ℕ, Bool, true, false, List, [], ◌∷◌, ap, sym, ◌∙◌, subst, refl}
use Rattle.std.specs.Prelude.{if◌then◌else◌, is_none, Option, Some, None, option_map}
use Rattle.std.specs.List.{list_any}
use Rattle.mt_types.proofs.StepLemmas.{both_of}
use Rattle.mt_types.proofs.OptionLemmas.{then_is}
use Rattle.mt_tokens.specs.declared.sign.Sign.TheVariants.{Open, Close, Dot, Semicolon, Equal}
use Rattle.mt_tokens.specs.Lexis.{skip_blanks}
use Rattle.mt_tokens.specs.Words.{is_sign, name_of}
use Rattle.mt_phrases.specs.Phrases.{Chain, InParens, Phrase, One, ◌▹◌, ◌◂◌, ◌&◌, ◌∣◌, Many, Made, Kept, Perhaps, Nothing, singleton}
use Rattle.mt_phrases.specs.Terminals.{fixed, is_text, key}
use Rattle.mt_syntax.specs.declared.clause.Clause.{Clause}
use Rattle.mt_syntax.specs.declared.clause.Clause.TheVariants as clause
use Rattle.mt_syntax.specs.declared.clause.Clauses.{Clauses}
use Rattle.mt_element_syntax.specs.declared.tree.Element.{Element}
use Rattle.mt_syntax.specs.declared.tree.PartitionText.TheVariants.{Plain, Month}
use Rattle.mt_syntax.specs.declared.tree.TableText.{TableText}
use Rattle.mt_element_syntax.specs.Grammar.{IsElements, IsKey, IsName, IsWord}
use Rattle.mt_syntax.specs.Grammar.{IsBody, IsClause, IsClauses, IsEnd, IsEngine, IsExpression, IsExpressions, IsSentence, IsSetting, IsTableText}
use Rattle.mt_element_syntax.specs.Terminals as terminal
use Rattle.mt_element_syntax.specs.Terminals.{word_of}
use Rattle.mt_syntax.specs.Terminals.{value_of}
use Rattle.mt_element_syntax.specs.Trees.{is_column_element}
use Rattle.mt_syntax.specs.Trees.{no_clauses, ordered_sentence, sentence_of, setting_of, with_clause, with_clauses}
use Rattle.mt_element_syntax.specs.Formed.{has_one_given}
use Rattle.mt_syntax.specs.Formed.{is_formed}
use Rattle.mt_phrases.proofs.PhrasesHold.{after_holds, all_good, Any, both_hold, Each, either_holds, Given, Holds, kept_holds, made_holds, many_hold, nothing_holds, perhaps_holds, then_holds}

-- ---- clauses

-- a primary key and a sort key name columns
abbrev SomeIn : Clause → Type 0
SomeIn (clause.Primary names) = Some' names
SomeIn (clause.Order names) = Some' names
SomeIn _ = Unit {0}

clause_holds : Holds IsClause SomeIn
clause_holds =
    let Partition : Phrase Clause = key "PARTITION" ▹ key "BY" ▹ Made clause.Partition IsExpressions in
    let Primary : Phrase Clause = key "PRIMARY" ▹ key "KEY" ▹ Made clause.Primary IsKey in
    let Order : Phrase Clause = key "ORDER" ▹ key "BY" ▹ Made clause.Order IsKey in
    let Settings : Phrase Clause = key "SETTINGS" ▹ Made clause.Settings (Chain IsSetting) in
    either_holds Partition (Primary ∣ Order ∣ Settings) SomeIn
    (after_holds (key "PARTITION") (key "BY" ▹ Made clause.Partition IsExpressions) SomeIn (after_holds (key "BY") (Made clause.Partition IsExpressions) SomeIn (made_holds clause.Partition IsExpressions Any SomeIn (λ x any. tt) expressions_hold)))
    (either_holds Primary (Order ∣ Settings) SomeIn
    (after_holds (key "PRIMARY") (key "KEY" ▹ Made clause.Primary IsKey) SomeIn (after_holds (key "KEY") (Made clause.Primary IsKey) SomeIn (made_holds clause.Primary IsKey Some' SomeIn (λ x some. some) key_some)))
    (either_holds Order Settings SomeIn
    (after_holds (key "ORDER") (key "BY" ▹ Made clause.Order IsKey) SomeIn (after_holds (key "BY") (Made clause.Order IsKey) SomeIn (made_holds clause.Order IsKey Some' SomeIn (λ x some. some) key_some)))
    (after_holds (key "SETTINGS") (Made clause.Settings (Chain IsSetting)) SomeIn (made_holds clause.Settings (Chain IsSetting) Any SomeIn (λ x any. tt) (any_in_chain IsSetting settings_hold)))))
  where
    expression_holds : Holds IsExpression Any
    expression_holds =
        either_holds (fixed "toYYYYMM" ▹ Made Month (InParens IsName)) (Made Plain IsName) Any
        (after_holds (fixed "toYYYYMM") (Made Month (InParens IsName)) Any (any_made Month (InParens IsName) (any_parens IsName (any_one name_of))))
        (any_made Plain IsName (any_one name_of))

    expressions_hold : Holds IsExpressions Any
    expressions_hold =
        either_holds (InParens (Chain IsExpression)) (Made singleton IsExpression) Any (any_parens (Chain IsExpression) (any_in_chain IsExpression expression_holds)) (any_made singleton IsExpression expression_holds)

    settings_hold : Holds IsSetting Any
    settings_hold =
        any_made setting_of (IsWord & (is_sign Equal ▹ One value_of)) (any_both IsWord (is_sign Equal ▹ One value_of) (any_one word_of) (after_holds (is_sign Equal) (One value_of) Any (any_one value_of)))

-- the keys that clauses give name columns
abbrev KeysNamed : Clauses → Type 0
KeysNamed c = Given Some' c.primary × Given Some' c.order

if_none : {A : Type 0} (o : Option A) (c d : Clauses) → (if is_none o then Some c else None) ≡ Some d → c ≡ d
if_none None c d e = cc
if_none (Some x) c d e = cc

one_clause : (c d : Clauses) (one : Clause) → with_clause c one ≡ Some d → KeysNamed c → SomeIn one → KeysNamed d
one_clause c d (clause.Partition given) e named some = subst KeysNamed (if_none c.partition _ d e) named
one_clause c d (clause.Primary names) e named some = subst KeysNamed (if_none c.primary _ d e) (some, named.1)
one_clause c d (clause.Order names) e named some = subst KeysNamed (if_none c.order _ d e) (named.0, some)
one_clause c d (clause.Settings given) e named some = subst KeysNamed (if_none c.settings _ d e) named

all_clauses : (clauses : List Clause) (c d : Clauses) → with_clauses c clauses ≡ Some d → KeysNamed c → Each SomeIn clauses → KeysNamed d
all_clauses [] c d e named each = let same : c ≡ d = cc in subst KeysNamed same named
all_clauses (one ∷ clauses) c d e named each =
    let next = then_is (λ d. with_clauses d clauses) (with_clause c one) d e in
    all_clauses clauses next.0 d next.2 (one_clause c next.0 one next.1 named each.0) each.1

clauses_hold : Holds IsClauses KeysNamed
clauses_hold = kept_holds (with_clauses no_clauses) (Many IsClause) (Each SomeIn) KeysNamed (λ x y e each. all_clauses x no_clauses y e (tt, tt) each) (many_hold IsClause SomeIn clause_holds)

engine_holds : Holds IsEngine KeysNamed
engine_holds =
    let Rest : Phrase Clauses = Perhaps (is_sign Open ∷ is_sign Close ∷ []) IsClauses in
    after_holds (key "ENGINE") (is_sign Equal ▹ fixed "MergeTree" ▹ Rest) KeysNamed
    (after_holds (is_sign Equal) (fixed "MergeTree" ▹ Rest) KeysNamed
    (after_holds (fixed "MergeTree") Rest KeysNamed (perhaps_holds (is_sign Open ∷ is_sign Close ∷ []) IsClauses KeysNamed clauses_hold)))

-- ---- the whole

abbrev BodyFormed : List ℕ × (List Element × Clauses) → Type 0
BodyFormed x = Named x.0 × (Each Formed x.1.0 × KeysNamed x.1.1)

body_holds : Holds IsBody BodyFormed
body_holds =
    let Rest : Phrase (List Element × Clauses) = Perhaps (key "UUID" ∷ is_text ∷ []) (IsElements & IsEngine) in
    perhaps_holds (terminal.is_name_token ∷ is_sign Dot ∷ []) (IsName & Rest) BodyFormed
    (both_hold IsName Rest Named (λ x. Each Formed x.0 × KeysNamed x.1) names_hold
    (perhaps_holds (key "UUID" ∷ is_text ∷ []) (IsElements & IsEngine) (λ x. Each Formed x.0 × KeysNamed x.1)
    (both_hold IsElements IsEngine (Each Formed) KeysNamed elements_hold engine_holds)))

primary_named : (primary : Option (List (List ℕ))) → Given Some' primary → has_one_given primary ≡ true
primary_named None given = refl
primary_named (Some names) given = given

made_formed : (x : List ℕ × (List Element × Clauses)) (text : TableText) → sentence_of x ≡ Some text → BodyFormed x → is_formed text ≡ true
made_formed x text e formed = by_column (list_any is_column_element x.1.0) refl e
  where
    by_order : (order : Option (List (List ℕ))) → Given Some' order → list_any is_column_element x.1.0 ≡ true → option_map (ordered_sentence x.0 x.1.0 x.1.1) order ≡ Some text → is_formed text ≡ true
    by_order None given any e = cc
    by_order (Some order) given any e =
        let same : ordered_sentence x.0 x.1.0 x.1.1 order ≡ text = cc in
        ap is_formed (sym same)
        ∙ both_of _ _ formed.0 (both_of _ _ (all_formed x.1.0 formed.1.0) (both_of _ _ any (both_of _ _ (primary_named x.1.1.primary formed.1.1.0) given)))

    by_column : (b : Bool) → list_any is_column_element x.1.0 ≡ b → (if b then option_map (ordered_sentence x.0 x.1.0 x.1.1) x.1.1.order else None) ≡ Some text → is_formed text ≡ true
    by_column true any e = by_order x.1.1.order formed.1.1.1 any e
    by_column false any e = cc

end_holds : Holds IsEnd Any
end_holds =
    perhaps_holds (key "COMMENT" ∷ is_text ∷ []) (Perhaps (is_sign Semicolon ∷ []) Nothing) Any (perhaps_holds (is_sign Semicolon ∷ []) Nothing Any nothing_holds)

sentences_hold : Holds IsSentence (λ text. is_formed text ≡ true)
sentences_hold =
    let F : TableText → Type 0 = λ text. is_formed text ≡ true in
    let Rest : Phrase TableText = Kept sentence_of IsBody ◂ IsEnd in
    let All' : Phrase TableText = Perhaps (key "IF" ∷ key "NOT" ∷ key "EXISTS" ∷ []) Rest in
    after_holds (key "CREATE") (key "TABLE" ▹ All') F (after_holds (key "TABLE") All' F
    (perhaps_holds (key "IF" ∷ key "NOT" ∷ key "EXISTS" ∷ []) Rest F
    (then_holds (Kept sentence_of IsBody) IsEnd F (kept_holds sentence_of IsBody BodyFormed F made_formed body_holds) end_holds)))

-- every sentence of a text has names that are names, and lists of at least one
pub text_is_formed : (text : List ℕ) (sentence : TableText) → IsTableText text sentence → is_formed sentence ≡ true
text_is_formed text sentence (tokens, are, is) = (sentences_hold tokens sentence [] is (all_good (skip_blanks text) tokens are)).0
