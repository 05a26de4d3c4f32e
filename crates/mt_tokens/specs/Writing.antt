-- Tokens as they are written: docs/LANGUAGE.md, "Tokens". `Lexis` reads a text from left to right;
-- here stands which bytes are a token, and which one is the longest.
use Rattle.std.specs.Prelude.{◌≡◌, ◌≤◌, ◌⊎◌, ℕ, List, [], ◌∷◌, ◌++◌, length, Bool, true, false, ◌==◌, ◌&&◌, if◌then◌else◌, codes}
use Rattle.std.specs.List.{list_all}
use Rattle.std.specs.Char.{is_ascii_digit}
use Rattle.mt_tokens.specs.declared.ascii.TheConstants.{QUOTE, BACKQUOTE, BACKSLASH}
use Rattle.mt_tokens.specs.declared.sign.Sign.{Sign}
use Rattle.mt_tokens.specs.declared.sign.Sign.TheVariants.{Open, Close, Comma, Dot, Semicolon, Star, Minus, Equal, NotEqual, Less, LessEqual, Greater, GreaterEqual}
use Rattle.mt_tokens.specs.Tokens.{Tok, Word, Quoted, Text, Digits, OfSign}
use Rattle.mt_types.specs.Words.{is_word_text, is_name}
use Rattle.mt_tokens.specs.Texts.{is_escape}

-- one or more digits
abbrev pub is_digit_text : List ℕ → Bool
is_digit_text [] = false
is_digit_text (c ∷ rest) = is_ascii_digit c && list_all is_ascii_digit rest

unfoldable mutual
  -- what may stand between quotes: no quote and no backslash, but in escapes
  pub is_quotable : List ℕ → Bool
  is_quotable [] = true
  is_quotable (c ∷ rest) =
      if c == QUOTE then false
      else if c == BACKSLASH then is_quotable_escape rest
      else is_quotable rest

  -- the same with a backslash before these bytes
  pub is_quotable_escape : List ℕ → Bool
  is_quotable_escape [] = false
  is_quotable_escape (letter ∷ rest) = if is_escape letter then is_quotable rest else false

-- the bytes are this sign
abbrev pub IsSign : Sign → List ℕ → Type 0
IsSign Open bytes = bytes ≡ codes "("
IsSign Close bytes = bytes ≡ codes ")"
IsSign Comma bytes = bytes ≡ codes ","
IsSign Dot bytes = bytes ≡ codes "."
IsSign Semicolon bytes = bytes ≡ codes ";"
IsSign Star bytes = bytes ≡ codes "*"
IsSign Minus bytes = bytes ≡ codes "-"
IsSign Equal bytes = bytes ≡ codes "="
IsSign NotEqual bytes = (bytes ≡ codes "<>") ⊎ (bytes ≡ codes "!=")
IsSign Less bytes = bytes ≡ codes "<"
IsSign LessEqual bytes = bytes ≡ codes "<="
IsSign Greater bytes = bytes ≡ codes ">"
IsSign GreaterEqual bytes = bytes ≡ codes ">="

-- bytes with a quote of this kind before and behind them
abbrev pub between_quotes : (quote : ℕ) → List ℕ → List ℕ
between_quotes quote inside = quote ∷ (inside ++ quote ∷ [])

-- the bytes are this token
abbrev pub IsWritten : Tok → List ℕ → Type 0
IsWritten (Word word) bytes = (is_word_text word ≡ true) × (bytes ≡ word)
IsWritten (Quoted name) bytes = (is_name name ≡ true) × (bytes ≡ between_quotes BACKQUOTE name)
IsWritten (Text text) bytes = (is_quotable text ≡ true) × (bytes ≡ between_quotes QUOTE text)
IsWritten (Digits digits) bytes = (is_digit_text digits ≡ true) × (bytes ≡ digits)
IsWritten (OfSign sign) bytes = IsSign sign bytes

-- a text begins with this token, and with no longer one; this follows it
pub record IsLongest (text : List ℕ) (token : Tok) (rest : List ℕ) : Type 0 where
  pub bytes : List ℕ
  pub is_written : IsWritten token bytes
  pub begins : text ≡ bytes ++ rest
  pub longest : (other : Tok) (others after : List ℕ) → IsWritten other others
      → text ≡ others ++ after → length others ≤ length bytes
