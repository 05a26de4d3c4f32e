-- What a token is in a sentence: docs/LANGUAGE.md, "Tokens".
use Rattle.std.specs.Prelude.{◌≡◌, ℕ, List, length, map, Option, Some, None, Bool, true, false, nat_le, ◌==◌, if◌then◌else◌}
use Rattle.std.specs.Str.{bytes_eq}
use Rattle.std.specs.Char.{to_ascii_lowercase}
use Rattle.mt_types.specs.declared.limits.TheConstants.{MAX_NAME}
use Rattle.mt_types.specs.Words.{is_name}
use Rattle.mt_tokens.specs.declared.sign.Sign.{Sign}
use Rattle.mt_tokens.specs.declared.sign.Sign.TheVariants.{Open, Close, Comma, Dot, Semicolon, Star, Minus, Equal, NotEqual, Less, LessEqual, Greater, GreaterEqual}
use Rattle.mt_tokens.specs.Tokens.{Tok, Word, Quoted, OfSign}

-- the name that a token is: a plain word that isn't too long, or what stands in backquotes
abbrev pub name_of : Tok → Option (List ℕ)
name_of (Word word) = if nat_le (length word) MAX_NAME then Some word else None
name_of (Quoted name) = Some name
name_of _ = None

-- if a token is a name, that is a word of 1 to 64 bytes
abbrev pub NamesWord : Tok → Type 0
NamesWord token = (name : List ℕ) → name_of token ≡ Some name → is_name name ≡ true

-- two texts differ in case alone
abbrev pub is_same_in_any_case : List ℕ → List ℕ → Bool
is_same_in_any_case a b = bytes_eq (map to_ascii_lowercase a) (map to_ascii_lowercase b)

-- a token is a keyword: a plain word, in any case
abbrev pub is_keyword : (key : List ℕ) → Tok → Bool
is_keyword key (Word word) = is_same_in_any_case word key
is_keyword key _ = false

-- a token is a fixed word: a plain one, as it is written
abbrev pub is_word : (fixed : List ℕ) → Tok → Bool
is_word fixed (Word word) = bytes_eq word fixed
is_word fixed _ = false

-- the number of a sign, so that signs can be told apart
abbrev pub sign_rank : Sign → ℕ
sign_rank Open = 0
sign_rank Close = 1
sign_rank Comma = 2
sign_rank Dot = 3
sign_rank Semicolon = 4
sign_rank Star = 5
sign_rank Minus = 6
sign_rank Equal = 7
sign_rank NotEqual = 8
sign_rank Less = 9
sign_rank LessEqual = 10
sign_rank Greater = 11
sign_rank GreaterEqual = 12

-- a token is this sign
abbrev pub is_sign : Sign → Tok → Bool
is_sign sign (OfSign found) = sign_rank found == sign_rank sign
is_sign sign _ = false
