-- Clauses: what is read is one, and each is read.
use Rattle.std.proofs.Common.{◌≡◌, ℕ, zero, suc, ◌<◌, ◌≤◌, Bool, true, false, List, [], ◌∷◌, length, Option, Some, refl, sym, ap, subst, ◌∙◌, inl, inr, arith}
use Rattle.std.specs.Prelude.{codes, ◌||◌, option_and_then}
use Rattle.mt_tokens.specs.declared.sign.Sign.{Sign}
use Rattle.mt_tokens.specs.declared.sign.Sign.TheVariants.{Open, Close, Comma, Equal}
use Rattle.mt_tokens.specs.Tokens.{Tok}
use Rattle.mt_tokens.specs.Words.{is_keyword, is_word, is_sign, name_of}
use Rattle.std.proofs.lemmas.Bool.{cases_Bool}
use Rattle.mt_types.proofs.OptionLemmas.{then_is, some_is}
use Rattle.mt_phrases.specs.Phrases.{Phrase, ◌▹◌, ◌◃◌, ◌∣◌, Many, Made, first_is, second_is, Chain, InParens, singleton}
use Rattle.mt_phrases.specs.Readers.{after, with_tree, chain}
use Rattle.mt_phrases.proofs.PhraseLaws.{IsRead, Any, Not, narrowed, one_law, after_law, after_strict, then_law, made_law, either_law, either_if_law}
use Rattle.mt_phrases.proofs.ListLaws.{chain_law, closed_law, parens_law, perhaps_law}
use Rattle.mt_phrases.proofs.TokenTests.{Apart, keys_apart, key_no_sign, word_no_sign, name_no_sign, one_begins, after_begins, after_is}
use Rattle.mt_syntax.specs.declared.tree.PartitionText.{PartitionText}
use Rattle.mt_syntax.specs.declared.tree.PartitionText.TheVariants.{Plain, Month}
use Rattle.mt_syntax.specs.declared.clause.Clause.{Clause}
use Rattle.mt_syntax.specs.declared.clause.Clause.TheVariants as clause
use Rattle.mt_syntax.specs.declared.clause.Clauses.{Clauses}
use Rattle.mt_element_syntax.specs.Grammar.{IsName, IsKey}
use Rattle.mt_syntax.specs.Grammar.{IsExpression, IsExpressions, IsSetting, IsClause, IsClauses, IsEngine}
use Rattle.mt_syntax.specs.Trees.{setting_of, with_clause, with_clauses, no_clauses}
use Rattle.mt_syntax.specs.Terminals.{value_of}
use Rattle.mt_element_syntax.specs.Reading.{key_at}
use Rattle.mt_syntax.specs.Reading.{expression_at, expressions_at, setting_at, is_clause_key, clause_at, more_clauses, clauses_at, engine_at}
use Rattle.mt_element_syntax.proofs.ElementLaws.{name_law, word_law, name_is_over, key_law, close_no_comma, close_no_open, comma_no_open, NoOpen, NoMore}

-- ---- partition keys

month_opens : (tokens : List Tok) (tree : PartitionText) (rest : List Tok) → (is_word (codes "toYYYYMM") ▹ Made Month (InParens IsName)) tokens tree rest → second_is (is_sign Open) tokens ≡ true
month_opens [] tree rest h = absurd h
month_opens (token ∷ tokens) tree rest h = after_is (is_sign Open) (IsName ◃ is_sign Close) tokens h.1.0 rest h.1.2

expression_law : IsRead IsExpression expression_at NoOpen
unfolding expression_at
expression_law =
    either_if_law (second_is (is_sign Open))
    (narrowed NoOpen (after_law (is_word (codes "toYYYYMM")) (made_law Month (parens_law name_law (λ token rest e. tt)))) (λ rest s. tt))
    (narrowed NoOpen (made_law Plain name_law) (λ rest s. tt))
    month_opens (λ tokens tree rest h s. name_is_over tokens h.0 rest h.2 s)

expression_begins : (tokens : List Tok) (tree : PartitionText) (rest : List Tok) → IsExpression tokens tree rest → NoOpen tokens
expression_begins tokens tree rest (inl h) = after_begins (is_word (codes "toYYYYMM")) (is_sign Open) (Made Month (InParens IsName)) (word_no_sign (codes "toYYYYMM") Open) tokens tree rest h
expression_begins tokens tree rest (inr h) = one_begins name_of (is_sign Open) (name_no_sign Open) tokens h.0 rest h.2

expressions_law : IsRead IsExpressions expressions_at NoOpen
expressions_law =
    let expressions = chain_law NoMore expression_law (λ token rest e. comma_no_open token e) (λ rest s. s) in
    either_law (is_sign Open) (narrowed NoOpen (closed_law expressions (λ token rest e. (close_no_comma token e, close_no_open token e))) (λ rest s. tt))
    (made_law singleton expression_law) (λ tokens tree rest h s. expression_begins tokens h.0 rest h.2)

-- ---- settings

setting_law : IsRead IsSetting setting_at Any
setting_law = made_law setting_of (then_law word_law (after_law (is_sign Equal) (one_law value_of)))

settings_law : IsRead (Chain IsSetting) (chain setting_at) (Not (is_sign Comma))
settings_law = chain_law (Not (is_sign Comma)) setting_law (λ token rest e. tt) (λ rest s. (s, tt))

-- ---- one clause

abbrev partition_key : Tok → Bool
partition_key = is_keyword (codes "PARTITION")

abbrev primary_key : Tok → Bool
primary_key = is_keyword (codes "PRIMARY")

abbrev order_key : Tok → Bool
order_key = is_keyword (codes "ORDER")

abbrev settings_key : Tok → Bool
settings_key = is_keyword (codes "SETTINGS")

abbrev IsPartitionBody : Phrase Clause
IsPartitionBody = is_keyword (codes "BY") ▹ Made clause.Partition IsExpressions

abbrev IsPrimaryBody : Phrase Clause
IsPrimaryBody = is_keyword (codes "KEY") ▹ Made clause.Primary IsKey

abbrev IsOrderBody : Phrase Clause
IsOrderBody = is_keyword (codes "BY") ▹ Made clause.Order IsKey

abbrev IsSettingsBody : Phrase Clause
IsSettingsBody = Made clause.Settings (Chain IsSetting)

partition_body : IsRead IsPartitionBody (after (is_keyword (codes "BY")) (with_tree clause.Partition expressions_at)) NoMore
partition_body = after_law (is_keyword (codes "BY")) (made_law clause.Partition (narrowed NoMore expressions_law (λ rest s. s.1)))

primary_body : IsRead IsPrimaryBody (after (is_keyword (codes "KEY")) (with_tree clause.Primary key_at)) NoMore
primary_body = after_law (is_keyword (codes "KEY")) (made_law clause.Primary (narrowed NoMore key_law (λ rest s. tt)))

order_body : IsRead IsOrderBody (after (is_keyword (codes "BY")) (with_tree clause.Order key_at)) NoMore
order_body = after_law (is_keyword (codes "BY")) (made_law clause.Order (narrowed NoMore key_law (λ rest s. tt)))

settings_body : IsRead IsSettingsBody (with_tree clause.Settings (chain setting_at)) NoMore
settings_body = made_law clause.Settings (narrowed NoMore settings_law (λ rest s. s.0))

settings_begins : (test : Tok → Bool) → Apart settings_key test → (tokens : List Tok) (tree : Clause) (rest : List Tok) → (settings_key ▹ IsSettingsBody) tokens tree rest → Not test tokens
settings_begins test apart tokens tree rest h = after_begins settings_key test IsSettingsBody apart tokens tree rest h

order_begins : (test : Tok → Bool) → Apart order_key test → Apart settings_key test → (tokens : List Tok) (tree : Clause) (rest : List Tok) → ((order_key ▹ IsOrderBody) ∣ (settings_key ▹ IsSettingsBody)) tokens tree rest → Not test tokens
order_begins test o s tokens tree rest (inl h) = after_begins order_key test IsOrderBody o tokens tree rest h
order_begins test o s tokens tree rest (inr h) = settings_begins test s tokens tree rest h

primary_begins : (test : Tok → Bool) → Apart primary_key test → Apart order_key test → Apart settings_key test → (tokens : List Tok) (tree : Clause) (rest : List Tok)
    → ((primary_key ▹ IsPrimaryBody) ∣ (order_key ▹ IsOrderBody) ∣ (settings_key ▹ IsSettingsBody)) tokens tree rest → Not test tokens
primary_begins test p o s tokens tree rest (inl h) = after_begins primary_key test IsPrimaryBody p tokens tree rest h
primary_begins test p o s tokens tree rest (inr h) = order_begins test o s tokens tree rest h

clause_law : IsRead IsClause clause_at NoMore
unfolding clause_at
clause_law =
    either_law partition_key partition_body
    (either_law primary_key primary_body
    (either_law order_key order_body (after_law settings_key settings_body)
    (λ tokens tree rest h s. settings_begins order_key (keys_apart (codes "SETTINGS") (codes "ORDER") refl) tokens tree rest h))
    (λ tokens tree rest h s. order_begins primary_key (keys_apart (codes "ORDER") (codes "PRIMARY") refl) (keys_apart (codes "SETTINGS") (codes "PRIMARY") refl) tokens tree rest h))
    (λ tokens tree rest h s. primary_begins partition_key (keys_apart (codes "PRIMARY") (codes "PARTITION") refl) (keys_apart (codes "ORDER") (codes "PARTITION") refl) (keys_apart (codes "SETTINGS") (codes "PARTITION") refl) tokens tree rest h)

-- a clause begins with no sign
no_sign_begins : (sign : Sign) (tokens : List Tok) (tree : Clause) (rest : List Tok) → IsClause tokens tree rest → Not (is_sign sign) tokens
no_sign_begins sign tokens tree rest (inl h) = after_begins partition_key (is_sign sign) IsPartitionBody (key_no_sign (codes "PARTITION") sign) tokens tree rest h
no_sign_begins sign tokens tree rest (inr h) =
    primary_begins (is_sign sign) (key_no_sign (codes "PRIMARY") sign) (key_no_sign (codes "ORDER") sign) (key_no_sign (codes "SETTINGS") sign) tokens tree rest h

second_of : (a b c : Bool) → b ≡ true → (a || (b || c)) ≡ true
second_of true b c e = refl
second_of false b c e = rw e refl

third_of : (a b c d : Bool) → c ≡ true → (a || (b || (c || d))) ≡ true
third_of true b c d e = refl
third_of false b c d e = second_of b c d e

fourth_of : (a b c d : Bool) → d ≡ true → (a || (b || (c || d))) ≡ true
fourth_of true b c d e = refl
fourth_of false true c d e = refl
fourth_of false false true d e = refl
fourth_of false false false d e = e

clause_begins : (tokens : List Tok) (tree : Clause) (rest : List Tok) → IsClause tokens tree rest → first_is is_clause_key tokens ≡ true
clause_begins [] tree rest (inl h) = absurd h
clause_begins [] tree rest (inr (inl h)) = absurd h
clause_begins [] tree rest (inr (inr (inl h))) = absurd h
clause_begins [] tree rest (inr (inr (inr h))) = absurd h
clause_begins (token ∷ tokens) tree rest (inl h) = rw h.0 refl
clause_begins (token ∷ tokens) tree rest (inr (inl h)) = second_of (partition_key token) (primary_key token) (order_key token || settings_key token) h.0
clause_begins (token ∷ tokens) tree rest (inr (inr (inl h))) = third_of (partition_key token) (primary_key token) (order_key token) (settings_key token) h.0
clause_begins (token ∷ tokens) tree rest (inr (inr (inr h))) = fourth_of (partition_key token) (primary_key token) (order_key token) (settings_key token) h.0

clause_strict : (tokens : List Tok) (tree : Clause) (rest : List Tok) → IsClause tokens tree rest → length rest < length tokens
clause_strict tokens tree rest (inl h) = after_strict partition_key IsPartitionBody (after (is_keyword (codes "BY")) (with_tree clause.Partition expressions_at)) NoMore partition_body tokens tree rest h
clause_strict tokens tree rest (inr (inl h)) = after_strict primary_key IsPrimaryBody (after (is_keyword (codes "KEY")) (with_tree clause.Primary key_at)) NoMore primary_body tokens tree rest h
clause_strict tokens tree rest (inr (inr (inl h))) = after_strict order_key IsOrderBody (after (is_keyword (codes "BY")) (with_tree clause.Order key_at)) NoMore order_body tokens tree rest h
clause_strict tokens tree rest (inr (inr (inr h))) = after_strict settings_key IsSettingsBody (with_tree clause.Settings (chain setting_at)) NoMore settings_body tokens tree rest h

-- ---- clauses

-- nothing follows that clauses may go on with
abbrev pub EndsClauses : List Tok → Type 0
EndsClauses rest = Not is_clause_key rest × NoMore rest

abbrev Together : Clauses → List Tok → Clauses × List Tok → Type 0
Together c tokens x = (trees : List Clause) × (with_clauses c trees ≡ Some x.0) × Many IsClause tokens trees x.1

none_more : (c : Clauses) (tokens : List Tok) (x : Clauses × List Tok) → (let o : Option (Clauses × List Tok) = Some (c, tokens) in o) ≡ Some x → Together c tokens x
none_more c tokens x e =
    let pair : Clauses × List Tok = (c, tokens) in
    subst (Together c tokens) (some_is pair x e) ([], refl, refl)

with_more : (c d all : Clauses) (tree : Clause) (trees : List Clause) → with_clause c tree ≡ Some d → with_clauses d trees ≡ Some all → with_clauses c (tree ∷ trees) ≡ Some all
with_more c d all tree trees e f = rw e f

more_sound : (count : ℕ) (c : Clauses) (tokens : List Tok) (x : Clauses × List Tok) → more_clauses count c tokens ≡ Some x → Together c tokens x
unfolding more_clauses
more_sound zero c tokens x e = none_more c tokens x e
more_sound (suc count) c tokens x e = elim (cases_Bool (first_is is_clause_key tokens)) [
  | inl here ↦
      let y = then_is (λ (y : Clause × List Tok). option_and_then (λ (d : Clauses). more_clauses count d y.1) (with_clause c y.0)) (clause_at tokens) x (rw here at e) in
      let d = then_is (λ (d : Clauses). more_clauses count d y.0.1) (with_clause c y.0.0) x y.2 in
      let m = more_sound count d.0 y.0.1 x d.2 in
      (y.0.0 ∷ m.0, with_more c d.0 x.0 y.0.0 m.0 d.1 m.1, (y.0.1, clause_law.sound tokens y.0 y.1, m.2))
  | inr other ↦ none_more c tokens x (rw other at e)
]

clauses_end : (tokens : List Tok) (trees : List Clause) (rest : List Tok) → Many IsClause tokens trees rest → NoMore rest → NoMore tokens
clauses_end tokens [] rest h s = subst NoMore (sym h) s
clauses_end tokens (tree ∷ trees) rest h s = (no_sign_begins Comma tokens tree h.0 h.1, no_sign_begins Open tokens tree h.0 h.1)

no_more : (count : ℕ) (c : Clauses) (tokens : List Tok) → Not is_clause_key tokens → more_clauses count c tokens ≡ Some (c, tokens)
unfolding more_clauses
no_more zero c tokens none = refl
no_more (suc count) c tokens none = rw none refl

more_complete : (count : ℕ) (c : Clauses) (tokens : List Tok) (trees : List Clause) (rest : List Tok) (all : Clauses) → length tokens ≤ count → Many IsClause tokens trees rest → with_clauses c trees ≡ Some all → EndsClauses rest
    → more_clauses count c tokens ≡ Some (all, rest)
unfolding more_clauses
more_complete count c tokens [] rest all room h e s =
    subst (λ (us : List Tok). more_clauses count c us ≡ Some (all, rest)) (sym h)
    (no_more count c rest s.0 ∙ ap (λ (d : Clauses). let o : Option (Clauses × List Tok) = Some (d, rest) in o) (some_is c all e))
more_complete zero c tokens (tree ∷ trees) rest all room h e s =
    let less = clause_strict tokens tree h.0 h.1 in
    absurd (omega arith)
more_complete (suc count) c tokens (tree ∷ trees) rest all room h e s =
    let less = clause_strict tokens tree h.0 h.1 in
    let one = clause_law.complete tokens tree h.0 h.1 (clauses_end h.0 trees rest h.2 s.1) in
    let d = then_is (λ (d : Clauses). with_clauses d trees) (with_clause c tree) all e in
    let others = more_complete count d.0 h.0 trees rest all (omega arith) h.2 d.2 s in
    rw (clause_begins tokens tree h.0 h.1, one, d.1) others

many_within : (tokens : List Tok) (trees : List Clause) (rest : List Tok) → Many IsClause tokens trees rest → length rest ≤ length tokens
many_within tokens [] rest h = omega (arith, ap length h)
many_within tokens (tree ∷ trees) rest h = omega (arith, clause_strict tokens tree h.0 h.1, many_within h.0 trees rest h.2)

clauses_law : IsRead IsClauses clauses_at EndsClauses
clauses_law = record {
  sound = λ tokens x e. more_sound (length tokens) no_clauses tokens x e;
  complete = λ tokens tree rest h s. more_complete (length tokens) no_clauses tokens h.0 rest tree (omega arith) h.2 h.1 s;
  within = λ tokens tree rest h. many_within tokens h.0 rest h.2;
}

-- ---- the engine

pub engine_law : IsRead IsEngine engine_at EndsClauses
unfolding engine_at
engine_law =
    after_law (is_keyword (codes "ENGINE")) (after_law (is_sign Equal) (after_law (is_word (codes "MergeTree"))
    (perhaps_law (is_sign Open) (is_sign Close ∷ []) clauses_law (λ tokens tree rest h s. (clauses_end tokens h.0 rest h.2 s.1).1))))
