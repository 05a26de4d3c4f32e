-- The tokens of a table text's grammar: docs/LANGUAGE.md, "Table text".
use Rattle.std.specs.Prelude.{Option, Some, None, option_map}
use Rattle.mt_tokens.specs.Tokens.{Tok, Word, Text, Digits}
use Rattle.mt_tokens.specs.Numbers.{number_of}
use Rattle.mt_syntax.specs.declared.tree.SettingValue.{SettingValue}
use Rattle.mt_syntax.specs.declared.tree.SettingValue.TheVariants as value

-- number | text | word: the value of a setting
abbrev pub value_of : Tok → Option SettingValue
value_of (Digits digits) = option_map value.Number (number_of digits)
value_of (Text bytes) = Some value.Text
value_of (Word bytes) = Some value.Word
value_of _ = None
