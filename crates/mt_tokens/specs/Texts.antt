-- Texts in single quotes and their escapes: docs/LANGUAGE.md, "Tokens".
use Rattle.std.specs.Prelude.{ℕ, ◌+◌, List, [], ◌∷◌, Bool, Option, Some, None, is_some, unwrap_or, ◌==◌, if◌then◌else◌}
use Rattle.mt_tokens.specs.declared.ascii.TheConstants.{QUOTE, BACKSLASH}

-- the byte that a backslash and b, f, r, n, t, 0, ' or \ stand for
abbrev pub escaped_byte : (letter : ℕ) → Option ℕ
escaped_byte letter =
    if letter == 98 then Some 8 else if letter == 102 then Some 12
    else if letter == 114 then Some 13 else if letter == 110 then Some 10
    else if letter == 116 then Some 9 else if letter == 48 then Some 0
    else if letter == QUOTE then Some QUOTE else if letter == BACKSLASH then Some BACKSLASH
    else None

-- a backslash and this letter are an escape
abbrev pub is_escape : (letter : ℕ) → Bool
is_escape letter = is_some (escaped_byte letter)

-- the byte that a backslash and this letter stand for, or else the letter
abbrev pub byte_of : (letter : ℕ) → ℕ
byte_of letter = unwrap_or (escaped_byte letter) letter

-- a length with so many bytes before it
abbrev pub plus : ℕ → Option ℕ → Option ℕ
plus count None = None
plus count (Some len) = Some (count + len)

unfoldable mutual
  -- how many bytes stand before the quote that ends a text; none where an escape is bad, or no
  -- quote ends it
  pub text_len : List ℕ → Option ℕ
  text_len [] = None
  text_len (c ∷ rest) =
      if c == QUOTE then Some 0
      else if c == BACKSLASH then escape_len rest
      else plus 1 (text_len rest)

  -- the same with a backslash before these bytes
  pub escape_len : List ℕ → Option ℕ
  escape_len [] = None
  escape_len (letter ∷ rest) = if is_escape letter then plus 2 (text_len rest) else None

unfoldable mutual
  -- the bytes that a text stands for
  pub unescaped : List ℕ → List ℕ
  unescaped [] = []
  unescaped (c ∷ rest) = if c == BACKSLASH then after_backslash rest else c ∷ unescaped rest

  -- the same with a backslash before these bytes; in a token an escape follows it
  pub after_backslash : List ℕ → List ℕ
  after_backslash [] = []
  after_backslash (letter ∷ rest) = byte_of letter ∷ unescaped rest
