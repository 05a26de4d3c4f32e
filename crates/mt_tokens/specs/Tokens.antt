-- Tokens as they read, apart from where they lie in memory: docs/LANGUAGE.md, "Tokens".
use Rattle.std.specs.Prelude.{ℕ, List, map}
use Rattle.mt_tokens.specs.declared.sign.Sign.{Sign}
use Rattle.mt_tokens.specs.declared.token.Token.{Token}
use Rattle.mt_tokens.specs.declared.token.Token.TheVariants as token

-- a token: a plain word, a name in backquotes, a text with its escapes, digits, or a sign
pub data Tok : Type 0 where
  Word : List ℕ → Tok
  Quoted : List ℕ → Tok
  Text : List ℕ → Tok
  Digits : List ℕ → Tok
  OfSign : Sign → Tok

-- a token of the code, as it reads
abbrev pub as_read : Token → Tok
as_read (token.Word bytes) = Word bytes.now
as_read (token.Quoted bytes) = Quoted bytes.now
as_read (token.Text bytes) = Text bytes.now
as_read (token.Digits bytes) = Digits bytes.now
as_read (token.Sign sign) = OfSign sign

-- tokens of the code, as they read
abbrev pub plains : List Token → List Tok
plains tokens = map as_read tokens
