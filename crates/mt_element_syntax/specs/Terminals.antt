-- The tokens of a table text's grammar: docs/LANGUAGE.md, "Table text".
use Rattle.std.specs.Prelude.{ℕ, List, Option, Some, None, Bool}
use Rattle.mt_tokens.specs.Tokens.{Tok, Word}
use Rattle.mt_phrases.specs.NameRules.{is_name_by}
use Rattle.mt_phrases.specs.declared.naming.NameRule.TheVariants.{Any}

-- the bytes of a plain word of any length
abbrev pub word_of : Tok → Option (List ℕ)
word_of (Word bytes) = Some bytes
word_of _ = None

-- a token is a name
abbrev pub is_name_token : Tok → Bool
is_name_token = is_name_by Any
