-- Texts: docs/LANGUAGE.md, "Lines".
use Rattle.std.specs.Prelude.{ℕ, ◌-◌, List, [], ◌∷◌, ◌++◌, length, replicate, Result, Ok, Err, Option, Some, None, nat_le, ◌==◌, if◌then◌else◌}
use Rattle.mt_tsv.specs.declared.ascii.TheConstants.{BACKSLASH}
use Rattle.mt_tsv.specs.declared.fault.RowWhy.{RowWhy}
use Rattle.mt_tsv.specs.declared.fault.RowWhy.TheVariants.{TooLong, Escape}
use Rattle.mt_types.specs.Steps.{◌>>=◌, onto}
use Rattle.mt_tsv.specs.Results.{unless_bad}

-- the byte that a backslash and b, f, r, n, t, 0, ' or \ stand for
abbrev pub escaped_byte : ℕ → Option ℕ
escaped_byte c =
    if c == 98 then Some 8 else if c == 102 then Some 12 else if c == 114 then Some 13 else if c == 110 then Some 10
    else if c == 116 then Some 9 else if c == 48 then Some 0 else if c == 39 then Some 39 else if c == 92 then Some 92 else None

-- a byte that an escape must have
abbrev pub must_have : Option ℕ → Result ℕ RowWhy
must_have (Some b) = Ok b
must_have None = Err Escape

unfoldable mutual
  -- the bytes of a text: a backslash and the next byte stand for one
  pub text_of : List ℕ → Result (List ℕ) RowWhy
  text_of [] = Ok []
  text_of (b ∷ rest) = if b == BACKSLASH then text_after_backslash rest else onto b (text_of rest)

  -- the same, where a backslash stands before
  pub text_after_backslash : List ℕ → Result (List ℕ) RowWhy
  text_after_backslash [] = Err Escape
  text_after_backslash (letter ∷ rest) = must_have (escaped_byte letter) >>= λ b. onto b (text_of rest)

-- a text of at most so many bytes
unfoldable pub bounded_text : ℕ → List ℕ → Result (List ℕ) RowWhy
bounded_text most field = do
  text ← text_of field
  unless_bad (nat_le (length text) most) TooLong (Ok text)

-- a text of exactly so many bytes, with zero bytes at the end of a shorter one
unfoldable pub padded_text : ℕ → List ℕ → Result (List ℕ) RowWhy
padded_text size field = do
  text ← bounded_text size field
  Ok (text ++ replicate (size - length text) 0)
