-- Signs as they are written: docs/LANGUAGE.md, "Tokens".
use Rattle.std.specs.Prelude.{ℕ, List, [], ◌∷◌, Option, Some, None, ◌==◌, ◌&&◌, if◌then◌else◌}
use Rattle.mt_tokens.specs.declared.sign.Sign.{Sign}
use Rattle.mt_tokens.specs.declared.sign.Sign.TheVariants.{Open, Close, Comma, Dot, Semicolon, Star, Minus, Equal, NotEqual, Less, LessEqual, Greater, GreaterEqual}

-- the sign of two bytes: <> != <= >=
abbrev pub double_sign : (first second : ℕ) → Option Sign
double_sign first second =
    if (first == 60) && (second == 62) then Some NotEqual
    else if (first == 33) && (second == 61) then Some NotEqual
    else if (first == 60) && (second == 61) then Some LessEqual
    else if (first == 62) && (second == 61) then Some GreaterEqual
    else None

-- the sign of one byte: ( ) , . ; * - = < >
abbrev pub single_sign : ℕ → Option Sign
single_sign c =
    if c == 40 then Some Open else if c == 41 then Some Close
    else if c == 44 then Some Comma else if c == 46 then Some Dot
    else if c == 59 then Some Semicolon else if c == 42 then Some Star
    else if c == 45 then Some Minus else if c == 61 then Some Equal
    else if c == 60 then Some Less else if c == 62 then Some Greater
    else None

-- a sign and what follows it, or else another
abbrev pub sign_or : Option Sign → (rest : List ℕ) → Option (Sign × List ℕ) → Option (Sign × List ℕ)
sign_or (Some sign) rest other = Some (sign, rest)
sign_or None rest other = other

-- the sign that the bytes begin with, of two bytes where they are one, and what follows it
abbrev pub sign_at : List ℕ → Option (Sign × List ℕ)
sign_at [] = None
sign_at (c ∷ []) = sign_or (single_sign c) [] None
sign_at (c ∷ d ∷ rest) =
    sign_or (double_sign c d) rest (sign_or (single_sign c) (d ∷ rest) None)
