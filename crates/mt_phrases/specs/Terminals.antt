-- The tokens that several grammars have: docs/LANGUAGE.md, "Tokens".
use Prim.Native.String.{String}
use Rattle.std.specs.Prelude.{ℕ, List, Option, Some, None, Bool, true, false, codes, if◌then◌else◌}
use Rattle.mt_types.specs.declared.ty.Agg.{Agg}
use Rattle.mt_types.specs.declared.ty.Agg.TheVariants.{Sum, Min, Max}
use Rattle.mt_tokens.specs.Texts.{unescaped}
use Rattle.mt_tokens.specs.Tokens.{Tok, Text, Digits}
use Rattle.mt_tokens.specs.Words.{is_keyword, is_word}
use Rattle.mt_tokens.specs.Numbers.{number_of}

-- the keyword, a plain word in any case
abbrev pub key : String → Tok → Bool
key word = is_keyword (codes word)

-- the plain word, as it is written
abbrev pub fixed : String → Tok → Bool
fixed word = is_word (codes word)

-- a token is digits
abbrev pub is_number : Tok → Bool
is_number (Digits digits) = true
is_number _ = false

-- the number that a token is, below 2^64
abbrev pub number_in_token : Tok → Option ℕ
number_in_token (Digits digits) = number_of digits
number_in_token _ = None

-- a token is a text in quotes
abbrev pub is_text : Tok → Bool
is_text (Text text) = true
is_text _ = false

-- the bytes that a text in quotes stands for
abbrev pub text_in_token : Tok → Option (List ℕ)
text_in_token (Text text) = Some (unescaped text)
text_in_token _ = None

-- the tree, where a token passes
abbrev pub tree_if : {A : Type 0} → (test : Tok → Bool) → (tree : A) → Tok → Option A
tree_if test tree token = if test token then Some tree else None

-- the aggregate that a token names, in any case
abbrev pub agg_of : Tok → Option Agg
agg_of token =
    if key "sum" token then Some Sum
    else if key "min" token then Some Min
    else if key "max" token then Some Max
    else None
