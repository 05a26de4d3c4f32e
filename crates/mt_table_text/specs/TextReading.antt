-- What a text defines, as a function of the text: its tokens, its sentence and the rules are read one after another.
use Rattle.std.specs.Prelude.{◌≡◌, ℕ, zero, suc, Bool, true, false, List, [], ◌∷◌, length, Option, Some, None, option_and_then, option_map, Result, Ok, Err}
use Rattle.std.proofs.Common.{refl}
use Rattle.mt_types.specs.Steps.{◌>>=◌}
use Rattle.mt_tokens.specs.Lexis.{skip_blanks, token_at}
use Rattle.mt_tokens.specs.Tokens.{Tok}
use Rattle.mt_syntax.specs.declared.tree.TableText.{TableText}
use Rattle.mt_syntax.specs.Reading.{sentence_at}
use Rattle.mt_table.specs.declared.definition.Table.{Table}
use Rattle.mt_table.specs.Fields.{Fields}
use Rattle.mt_table.specs.Kept.{keeps_rules}
use Rattle.mt_table.specs.Tables.{table_with}
use Rattle.mt_table_text.specs.declared.why.TableWhy.{TableWhy}
use Rattle.mt_table_text.specs.declared.why.TableWhy.TheVariants.{Syntax, TooMany}
use Rattle.mt_table_text.specs.Judging.{fields_judged}

-- a token before the others
abbrev pub token_onto : Tok → Option (List Tok) → Option (List Tok)
token_onto token others = option_map (λ tokens. token ∷ tokens) others

-- at most so many tokens, of a text that begins with no blank
unfoldable pub tokens_from : (most : ℕ) → List ℕ → Option (List Tok)
tokens_from most [] = Some []
tokens_from zero (byte ∷ text) = None
tokens_from (suc most) (byte ∷ text) = option_and_then (λ x. token_onto x.0 (tokens_from most (skip_blanks x.1))) (token_at (byte ∷ text))

-- the tokens of a text, which has no more tokens than bytes
abbrev pub tokens_of : List ℕ → Option (List Tok)
tokens_of text = tokens_from (length (skip_blanks text)) (skip_blanks text)

-- The table of these fields, by whether they keep the rules. Those of a sentence do: `read_table` says so by `reads` beside `Defines`.
abbrev pub table_if : (f : Fields) → (keeps : Bool) → keeps_rules f ≡ keeps → Result Table TableWhy
table_if f true keeps = Ok (table_with f keeps)
table_if f false breaks = Err TooMany

-- the table of these fields
abbrev pub table_of_fields : Fields → Result Table TableWhy
table_of_fields f = table_if f (keeps_rules f) refl

-- the table of a sentence, or the first rule that the sentence breaks
unfoldable pub judged : TableText → Result Table TableWhy
judged text = fields_judged text >>= table_of_fields

-- the table of a sentence, if there is one
abbrev pub judged_sentence : Option TableText → Result Table TableWhy
judged_sentence None = Err Syntax
judged_sentence (Some sentence) = judged sentence

-- the table of a text, or the first rule that the text breaks
unfoldable pub table_reading : List ℕ → Result Table TableWhy
table_reading text = judged_sentence (option_and_then sentence_at (tokens_of text))
