-- The tokens of a text: docs/LANGUAGE.md, "Tokens". Blanks part them, and each is the longest that
-- begins at its place.
use Rattle.std.specs.Prelude.{◌≡◌, ℕ, List, [], ◌∷◌, take, drop, position, Option, Some, None, option_map, Result, Ok, Err, Bool, ◌==◌, if◌then◌else◌}
use Rattle.std.specs.List.{prefix_len}
use Rattle.std.specs.Char.{is_ascii_digit}
use Rattle.mt_tokens.specs.declared.ascii.TheConstants.{QUOTE, BACKQUOTE}
use Rattle.mt_tokens.specs.declared.token.Token.{Token}
use Rattle.mt_tokens.specs.declared.error.TokenError.{TokenError}
use Rattle.mt_tokens.specs.declared.error.TokenError.TheVariants as error
use Rattle.mt_types.specs.Words.{is_word_start, is_word_byte, is_name}
use Rattle.mt_tokens.specs.Bytes.{is_blank}
use Rattle.mt_tokens.specs.Tokens.{Tok, Word, Quoted, Text, Digits, OfSign, plains}
use Rattle.mt_tokens.specs.Texts.{text_len}
use Rattle.mt_tokens.specs.Signs.{sign_at}

-- the longest run of such bytes at the front, and what follows it
abbrev pub run_of : (List ℕ → Tok) → (ℕ → Bool) → List ℕ → Option (Tok × List ℕ)
run_of make test text =
    let count = prefix_len test text in Some (make (take count text), drop count text)

-- so many bytes as a text, and what follows the quote behind them
abbrev pub text_of_len : List ℕ → Option ℕ → Option (Tok × List ℕ)
text_of_len text None = None
text_of_len text (Some count) = Some (Text (take count text), drop 1 (drop count text))

-- the text that a quote before these bytes begins, and what follows its last quote
abbrev pub text_after_quote : List ℕ → Option (Tok × List ℕ)
text_after_quote text = text_of_len text (text_len text)

-- so many bytes as a name, if they are one, and what follows the backquote behind them
abbrev pub name_of_len : List ℕ → Option ℕ → Option (Tok × List ℕ)
name_of_len text None = None
name_of_len text (Some count) =
    if is_name (take count text) then Some (Quoted (take count text), drop 1 (drop count text))
    else None

-- the name that a backquote before these bytes begins, and what follows its last backquote
abbrev pub quoted_at : List ℕ → Option (Tok × List ℕ)
quoted_at text = name_of_len text (position (λ c. c == BACKQUOTE) text)

-- the token that the bytes begin with, the longest one, and what follows it
unfoldable pub token_at : List ℕ → Option (Tok × List ℕ)
token_at [] = None
token_at (c ∷ rest) =
    if is_word_start c then run_of Word is_word_byte (c ∷ rest)
    else if is_ascii_digit c then run_of Digits is_ascii_digit (c ∷ rest)
    else if c == QUOTE then text_after_quote rest
    else if c == BACKQUOTE then quoted_at rest
    else option_map (λ x. (OfSign x.0, x.1)) (sign_at (c ∷ rest))

-- what follows the blanks at the front
abbrev pub skip_blanks : List ℕ → List ℕ
skip_blanks text = drop (prefix_len is_blank text) text

-- these are the tokens of a text that begins with no blank
abbrev pub AreTokens : (text : List ℕ) → List Tok → Type 0
AreTokens text [] = text ≡ []
AreTokens text (token ∷ others) =
    (rest : List ℕ) × (token_at text ≡ Some (token, rest)) × AreTokens (skip_blanks rest) others

-- these are the tokens of the text
abbrev pub IsTokens : (text : List ℕ) → List Tok → Type 0
IsTokens text tokens = AreTokens (skip_blanks text) tokens

-- what was returned is these tokens, unless memory was refused
abbrev pub GivesTokens : Result (List Token) TokenError → List Tok → Type 0
GivesTokens (Ok read) tokens = tokens ≡ plains read
GivesTokens (Err error.Bad) tokens = ⊥
GivesTokens (Err error.NoMemory) tokens = Unit {0}
