-- The tokens of a query's grammar: docs/LANGUAGE.md, "Queries".
use Rattle.std.specs.Prelude.{Option, Some, None, Bool}
use Rattle.mt_tokens.specs.declared.sign.Sign.TheVariants.{Equal, NotEqual, Less, LessEqual, Greater, GreaterEqual}
use Rattle.mt_tokens.specs.Numbers.{wide_number_of}
use Rattle.mt_tokens.specs.Texts.{unescaped}
use Rattle.mt_tokens.specs.Tokens.{Tok, Text, Digits, OfSign}
use Rattle.mt_phrases.specs.NameRules.{is_name_by}
use Rattle.mt_phrases.specs.declared.naming.NameRule.TheVariants.{Unreserved}
use Rattle.mt_cond_syntax.specs.declared.op.Op.{Op}
use Rattle.mt_cond_syntax.specs.declared.op.Op.TheVariants.{Eq, Ne, Lt, Le, Gt, Ge}
use Rattle.mt_cond_syntax.specs.declared.tree.Literal.{Literal}
use Rattle.mt_cond_syntax.specs.declared.tree.Literal.TheVariants as literal
use Rattle.mt_cond_syntax.specs.Numbers.{negative_of}

-- a token is a name
abbrev pub is_unreserved_name : Tok → Bool
is_unreserved_name = is_name_by Unreserved

-- digits | text
abbrev pub literal_of : Tok → Option Literal
literal_of (Digits digits) = Some (literal.Number (wide_number_of digits))
literal_of (Text text) = Some (literal.Text (unescaped text))
literal_of _ = None

-- digits behind a minus
abbrev pub negative_in : Tok → Option Literal
negative_in (Digits digits) = Some (literal.Negative (negative_of digits))
negative_in _ = None

-- = | != | <> | < | <= | > | >=
abbrev pub op_of : Tok → Option Op
op_of (OfSign Equal) = Some Eq
op_of (OfSign NotEqual) = Some Ne
op_of (OfSign Less) = Some Lt
op_of (OfSign LessEqual) = Some Le
op_of (OfSign Greater) = Some Gt
op_of (OfSign GreaterEqual) = Some Ge
op_of _ = None
