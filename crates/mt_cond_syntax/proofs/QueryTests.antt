-- Tests of a query's tokens that no token passes both of, and what stands second.
use Rattle.std.proofs.Common.{◌≡◌, ℕ, Bool, true, false, List, [], Some, refl, inl, inr}
use Rattle.std.specs.Prelude.{codes, ◌||◌}
use Rattle.std.proofs.lemmas.Bool.{cases_Bool}
use Rattle.mt_tokens.specs.declared.sign.Sign.{Sign}
use Rattle.mt_tokens.specs.declared.sign.Sign.TheVariants.{Open, Close, Comma, Dot, Semicolon, Star, Minus, Equal, NotEqual, Less, LessEqual, Greater, GreaterEqual}
use Rattle.mt_tokens.specs.Tokens.{Tok, Word, Quoted, Text, Digits, OfSign}
use Rattle.mt_tokens.specs.Words.{is_keyword, is_sign, name_of}
use Rattle.mt_phrases.proofs.TokenTests.{Lacks, name_no_sign}
use Rattle.mt_cond_syntax.specs.declared.op.Op.{Op}
use Rattle.mt_phrases.specs.NameRules.{is_clause_word, is_cond_word, name_in}
use Rattle.mt_cond_syntax.specs.Terminals.{literal_of, op_of}

-- a name is no reserved word
name_is : (token : Tok) (name : List ℕ) → name_in token ≡ Some name → (is_cond_word token ≡ false) × (name_of token ≡ Some name)
name_is token name e = elim (cases_Bool (is_clause_word token)) [
  | inl clause ↦ absurd (let k = rw clause at e in cc)
  | inr no_clause ↦ elim (cases_Bool (is_cond_word token)) [
    | inl cond ↦ absurd (let k = rw (no_clause, cond) at e in cc)
    | inr no_cond ↦ (no_cond, rw (no_clause, no_cond) at e)
  ]
]

pub query_name_no_sign : (sign : Sign) → Lacks name_in (is_sign sign)
query_name_no_sign sign token name e = name_no_sign sign token name (name_is token name e).1

third_of : (a b c d : Bool) → (a || (b || (c || d))) ≡ false → c ≡ false
third_of false false false d e = refl
third_of false false true d e = absurd cc
third_of false true c d e = absurd cc
third_of true b c d e = absurd cc

pub query_name_no_not : Lacks name_in (is_keyword (codes "NOT"))
query_name_no_not token name e =
    third_of (is_keyword (codes "AND") token) (is_keyword (codes "OR") token) (is_keyword (codes "NOT") token)
    (is_keyword (codes "IN") token || (is_keyword (codes "IS") token || is_keyword (codes "NULL") token)) (name_is token name e).0

pub literal_no_sign : (sign : Sign) → Lacks literal_of (is_sign sign)
literal_no_sign sign (Word w) tree e = absurd cc
literal_no_sign sign (Quoted w) tree e = absurd cc
literal_no_sign sign (Text w) tree e = refl
literal_no_sign sign (Digits w) tree e = refl
literal_no_sign sign (OfSign s) tree e = absurd cc

pub op_no_key : (key : List ℕ) → Lacks op_of (is_keyword key)
op_no_key key (Word w) tree e = absurd cc
op_no_key key (Quoted w) tree e = refl
op_no_key key (Text w) tree e = refl
op_no_key key (Digits w) tree e = refl
op_no_key key (OfSign s) tree e = refl

sign_no_open : (sign : Sign) (tree : Op) → op_of (OfSign sign) ≡ Some tree → is_sign Open (OfSign sign) ≡ false
sign_no_open Open tree e = absurd cc
sign_no_open Close tree e = refl
sign_no_open Comma tree e = refl
sign_no_open Dot tree e = refl
sign_no_open Semicolon tree e = refl
sign_no_open Star tree e = refl
sign_no_open Minus tree e = refl
sign_no_open Equal tree e = refl
sign_no_open NotEqual tree e = refl
sign_no_open Less tree e = refl
sign_no_open LessEqual tree e = refl
sign_no_open Greater tree e = refl
sign_no_open GreaterEqual tree e = refl

pub op_no_open : Lacks op_of (is_sign Open)
op_no_open (Word w) tree e = refl
op_no_open (Quoted w) tree e = refl
op_no_open (Text w) tree e = refl
op_no_open (Digits w) tree e = refl
op_no_open (OfSign s) tree e = sign_no_open s tree e
