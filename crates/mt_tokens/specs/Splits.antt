-- Tokens taken off the front, one at a time.
use Rattle.std.specs.Prelude.{ℕ, List, [], ◌∷◌, Option, Some, None, Bool, option_map, if◌then◌else◌}
use Rattle.mt_tokens.specs.declared.sign.Sign.{Sign}
use Rattle.mt_tokens.specs.Tokens.{Tok, Digits}
use Rattle.mt_tokens.specs.Words.{is_keyword, is_word, is_sign, name_of}
use Rattle.mt_tokens.specs.Numbers.{number_of}

-- what follows the first token, if it passes
abbrev pub after_if : (Tok → Bool) → List Tok → Option (List Tok)
after_if test [] = None
after_if test (token ∷ rest) = if test token then Some rest else None

-- what follows a keyword, a plain word in any case
abbrev pub after_keyword : (key : List ℕ) → List Tok → Option (List Tok)
after_keyword key tokens = after_if (is_keyword key) tokens

-- what follows a fixed word, as it is written
abbrev pub after_word : (fixed : List ℕ) → List Tok → Option (List Tok)
after_word fixed tokens = after_if (is_word fixed) tokens

-- what follows a sign
abbrev pub after_sign : Sign → List Tok → Option (List Tok)
after_sign sign tokens = after_if (is_sign sign) tokens

-- the name at the front, and what follows it
abbrev pub split_name : List Tok → Option (List ℕ × List Tok)
split_name [] = None
split_name (token ∷ rest) = option_map (λ name. (name, rest)) (name_of token)

-- the number below 2^64 at the front, and what follows it
abbrev pub split_number : List Tok → Option (ℕ × List Tok)
split_number (Digits digits ∷ rest) = option_map (λ number. (number, rest)) (number_of digits)
split_number _ = None
