-- Tests of tokens that no token passes both of, and what phrases begin with.
use Rattle.std.proofs.Common.{◌≡◌, ℕ, Bool, true, false, map, List, [], ◌∷◌, Option, Some, None, refl, sym, subst, ◌⊎◌, inl, inr}
use Rattle.std.specs.Prelude.{codes, ◌==◌}
use Rattle.std.specs.Char.{to_ascii_lowercase}
use Rattle.std.specs.Str.{bytes_eq}
use Rattle.std.proofs.lemmas.Bool.{cases_Bool, eqb-true}
use Rattle.std.proofs.lemmas.Slice.Eq.{bytes_eq-Decides}
use Rattle.mt_types.specs.declared.ty.Agg.{Agg}
use Rattle.mt_tokens.specs.declared.sign.Sign.{Sign}
use Rattle.mt_tokens.specs.Tokens.{Tok, Word, Quoted, Text, Digits, OfSign}
use Rattle.mt_tokens.specs.Words.{sign_rank, is_same_in_any_case, is_keyword, is_word, is_sign, name_of}
use Rattle.mt_phrases.specs.Phrases.{Phrase, One, ◌▹◌, Maybe, OneEach, Perhaps, first_is, second_is}
use Rattle.mt_phrases.specs.Terminals.{is_number, is_text, number_in_token, text_in_token, tree_if, agg_of}
use Rattle.mt_phrases.proofs.PhraseLaws.{Not}

-- no token passes both tests
abbrev pub Apart : (Tok → Bool) → (Tok → Bool) → Type 0
Apart test other = (token : Tok) → test token ≡ true → other token ≡ false

-- no token that has a tree passes the test
abbrev pub Lacks : {A : Type 0} → (Tok → Option A) → (Tok → Bool) → Type 0
Lacks {A = A} tree_of test = (token : Tok) (tree : A) → tree_of token ≡ Some tree → test token ≡ false

-- ---- tests

pub keys_apart : (a b : List ℕ) → is_same_in_any_case a b ≡ false → Apart (is_keyword a) (is_keyword b)
keys_apart a b differ (Word w) e = rw ((bytes_eq-Decides (map to_ascii_lowercase w) (map to_ascii_lowercase a)).0 e) differ
keys_apart a b differ (Quoted w) e = absurd cc
keys_apart a b differ (Text w) e = absurd cc
keys_apart a b differ (Digits w) e = absurd cc
keys_apart a b differ (OfSign s) e = absurd cc

pub words_apart : (a b : List ℕ) → bytes_eq a b ≡ false → Apart (is_word a) (is_word b)
words_apart a b differ (Word w) e = rw ((bytes_eq-Decides w a).0 e) differ
words_apart a b differ (Quoted w) e = absurd cc
words_apart a b differ (Text w) e = absurd cc
words_apart a b differ (Digits w) e = absurd cc
words_apart a b differ (OfSign s) e = absurd cc

pub signs_apart : (a b : Sign) → (sign_rank a == sign_rank b) ≡ false → Apart (is_sign a) (is_sign b)
signs_apart a b differ (Word w) e = absurd cc
signs_apart a b differ (Quoted w) e = absurd cc
signs_apart a b differ (Text w) e = absurd cc
signs_apart a b differ (Digits w) e = absurd cc
signs_apart a b differ (OfSign s) e = rw (eqb-true (sign_rank s) (sign_rank a) e) differ

pub key_no_sign : (a : List ℕ) (b : Sign) → Apart (is_keyword a) (is_sign b)
key_no_sign a b (Word w) e = refl
key_no_sign a b (Quoted w) e = absurd cc
key_no_sign a b (Text w) e = absurd cc
key_no_sign a b (Digits w) e = absurd cc
key_no_sign a b (OfSign s) e = absurd cc

pub word_no_sign : (a : List ℕ) (b : Sign) → Apart (is_word a) (is_sign b)
word_no_sign a b (Word w) e = refl
word_no_sign a b (Quoted w) e = absurd cc
word_no_sign a b (Text w) e = absurd cc
word_no_sign a b (Digits w) e = absurd cc
word_no_sign a b (OfSign s) e = absurd cc

pub sign_no_key : (a : Sign) (b : List ℕ) → Apart (is_sign a) (is_keyword b)
sign_no_key a b (Word w) e = absurd cc
sign_no_key a b (Quoted w) e = refl
sign_no_key a b (Text w) e = refl
sign_no_key a b (Digits w) e = refl
sign_no_key a b (OfSign s) e = refl

pub word_no_key : (a b : List ℕ) → is_same_in_any_case a b ≡ false → Apart (is_word a) (is_keyword b)
word_no_key a b differ (Word w) e = rw ((bytes_eq-Decides w a).0 e) differ
word_no_key a b differ (Quoted w) e = absurd cc
word_no_key a b differ (Text w) e = absurd cc
word_no_key a b differ (Digits w) e = absurd cc
word_no_key a b differ (OfSign s) e = absurd cc

pub name_no_sign : (b : Sign) → Lacks name_of (is_sign b)
name_no_sign b (Word w) tree e = refl
name_no_sign b (Quoted w) tree e = refl
name_no_sign b (Text w) tree e = refl
name_no_sign b (Digits w) tree e = refl
name_no_sign b (OfSign s) tree e = absurd cc

pub number_is : (token : Tok) (tree : ℕ) → number_in_token token ≡ Some tree → is_number token ≡ true
number_is (Word w) tree e = absurd cc
number_is (Quoted w) tree e = absurd cc
number_is (Text w) tree e = absurd cc
number_is (Digits w) tree e = refl
number_is (OfSign s) tree e = absurd cc

pub text_is : (token : Tok) (tree : List ℕ) → text_in_token token ≡ Some tree → is_text token ≡ true
text_is (Word w) tree e = absurd cc
text_is (Quoted w) tree e = absurd cc
text_is (Text w) tree e = refl
text_is (Digits w) tree e = absurd cc
text_is (OfSign s) tree e = absurd cc

pub text_no_number : Lacks text_in_token is_number
text_no_number (Word w) tree e = absurd cc
text_no_number (Quoted w) tree e = absurd cc
text_no_number (Text w) tree e = refl
text_no_number (Digits w) tree e = absurd cc
text_no_number (OfSign s) tree e = absurd cc

pub given_is : {A : Type 0} (test : Tok → Bool) (is : A) (token : Tok) (tree : A) → tree_if test is token ≡ Some tree → test token ≡ true
given_is test is token tree e = elim (cases_Bool (test token)) [
  | inl here ↦ here
  | inr other ↦ absurd (let k = rw other at e in cc)
]

-- an aggregate is one of three keywords
pub agg_is : (token : Tok) (agg : Agg) → agg_of token ≡ Some agg → (is_keyword (codes "sum") token ≡ true) ⊎ ((is_keyword (codes "min") token ≡ true) ⊎ (is_keyword (codes "max") token ≡ true))
agg_is token agg e = elim (cases_Bool (is_keyword (codes "sum") token)) [
  | inl sum ↦ inl sum
  | inr no_sum ↦ elim (cases_Bool (is_keyword (codes "min") token)) [
    | inl min ↦ inr (inl min)
    | inr no_min ↦ elim (cases_Bool (is_keyword (codes "max") token)) [
      | inl max ↦ inr (inr max)
      | inr no_max ↦ absurd (let k = rw (no_sum, no_min, no_max) at e in cc)
    ]
  ]
]

any_agg : (test : Tok → Bool) → Apart (is_keyword (codes "sum")) test → Apart (is_keyword (codes "min")) test → Apart (is_keyword (codes "max")) test
    → (token : Tok) → (is_keyword (codes "sum") token ≡ true) ⊎ ((is_keyword (codes "min") token ≡ true) ⊎ (is_keyword (codes "max") token ≡ true)) → test token ≡ false
any_agg test s m x token (inl h) = s token h
any_agg test s m x token (inr (inl h)) = m token h
any_agg test s m x token (inr (inr h)) = x token h

pub agg_no_count : Lacks agg_of (is_keyword (codes "count"))
agg_no_count token agg e =
    any_agg (is_keyword (codes "count")) (keys_apart (codes "sum") (codes "count") refl) (keys_apart (codes "min") (codes "count") refl) (keys_apart (codes "max") (codes "count") refl) token (agg_is token agg e)

pub agg_no_sign : (b : Sign) → Lacks agg_of (is_sign b)
agg_no_sign b token agg e =
    any_agg (is_sign b) (key_no_sign (codes "sum") b) (key_no_sign (codes "min") b) (key_no_sign (codes "max") b) token (agg_is token agg e)

-- ---- what phrases begin with

pub one_begins : {A : Type 0} (tree_of : Tok → Option A) (test : Tok → Bool) → Lacks tree_of test → (tokens : List Tok) (tree : A) (rest : List Tok) → One tree_of tokens tree rest → Not test tokens
one_begins tree_of test lacks [] tree rest h = absurd h
one_begins tree_of test lacks (token ∷ tokens) tree rest h = lacks token tree h.0

pub after_begins : {A : Type 0} (key test : Tok → Bool) (P : Phrase A) → Apart key test → (tokens : List Tok) (tree : A) (rest : List Tok) → (key ▹ P) tokens tree rest → Not test tokens
after_begins key test P apart [] tree rest h = absurd h
after_begins key test P apart (token ∷ tokens) tree rest h = apart token h.0

pub after_is : {A : Type 0} (key : Tok → Bool) (P : Phrase A) (tokens : List Tok) (tree : A) (rest : List Tok) → (key ▹ P) tokens tree rest → first_is key tokens ≡ true
after_is key P [] tree rest h = absurd h
after_is key P (token ∷ tokens) tree rest h = h.0

pub maybe_begins : {A : Type 0} (key test : Tok → Bool) (P : Phrase A) → Apart key test → (tokens : List Tok) (tree : Option A) (rest : List Tok) → Maybe (key ▹ P) tokens tree rest → Not test rest → Not test tokens
maybe_begins key test P apart tokens None rest h none = subst (λ (us : List Tok). Not test us) (sym h) none
maybe_begins key test P apart tokens (Some tree) rest h none = after_begins key test P apart tokens tree rest h

pub skips_begin : (key test : Tok → Bool) (keys : List (Tok → Bool)) → Apart key test → (tokens middle : List Tok) → (tokens ≡ middle) ⊎ OneEach (key ∷ keys) tokens middle → Not test middle → Not test tokens
skips_begin key test keys apart tokens middle (inl e) none = subst (λ (us : List Tok). Not test us) (sym e) none
skips_begin key test keys apart [] middle (inr m) none = refl
skips_begin key test keys apart (token ∷ tokens) middle (inr m) none = apart token m.0

pub perhaps_begins : {A : Type 0} (key test : Tok → Bool) (keys : List (Tok → Bool)) (P : Phrase A) → Apart key test → (tokens : List Tok) (tree : A) (rest : List Tok) → (h : Perhaps (key ∷ keys) P tokens tree rest)
    → Not test h.0 → Not test tokens
perhaps_begins key test keys P apart tokens tree rest h none = skips_begin key test keys apart tokens h.0 h.1 none

-- what follows a token begins as the second one says
pub second_of : {A : Type 0} (tree_of : Tok → Option A) (test : Tok → Bool) (b : Bool) (tokens middle : List Tok) (tree : A) → One tree_of tokens tree middle → first_is test middle ≡ b → second_is test tokens ≡ b
second_of tree_of test b [] middle tree h e = absurd h
second_of tree_of test b (token ∷ tokens) middle tree h e = subst (λ (us : List Tok). first_is test us ≡ b) (sym h.1) e
