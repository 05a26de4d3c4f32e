-- The values that literals are beside columns: docs/LANGUAGE.md, "Queries".
use Rattle.std.specs.Prelude.{ℕ, ◌-◌, ◌++◌, pos, List, length, replicate, Option, Some, None, nat_le, option_map, if◌then◌else◌}
use Rattle.mt_types.specs.declared.ty.Ty.{Ty, out-Ty}
use Rattle.mt_types.specs.declared.ty.Ty.TheOpen.{Ty-F}
use Rattle.mt_types.specs.declared.value.Value.{Value}
use Rattle.mt_types.specs.declared.value.Value.TheVariants.{Num, Text}
use Rattle.mt_types.specs.Fits.{number_value}
use Rattle.mt_cond_syntax.specs.declared.tree.Literal.{Literal}
use Rattle.mt_cond_syntax.specs.declared.tree.Literal.TheVariants as literal
use Rattle.mt_calendar.specs.Dates.{date_of}
use Rattle.mt_calendar.specs.Moments.{moment_of}

-- a Nullable goes by the type inside it
abbrev pub inside_at : Ty → Ty-F Ty → Ty
inside_at ty (Ty-F.Nullable inner) = inner
inside_at ty _ = ty

-- the type that a column's literals go by
abbrev pub inside : Ty → Ty
inside ty = inside_at ty (out-Ty ty)

-- a number from -2^127 to 2^128 - 1
abbrev pub integer_value : Literal → Option Value
integer_value (literal.Number number) = option_map (λ n. number_value (pos n)) number
integer_value (literal.Negative number) = option_map Num number
integer_value (literal.Text text) = None

-- the day of a text YYYY-MM-DD
abbrev pub date_literal_value : Literal → Option Value
date_literal_value (literal.Text text) = option_map (λ day. Num (pos day)) (date_of text)
date_literal_value _ = None

-- the second of a text YYYY-MM-DD hh:mm:ss
abbrev pub moment_value : Literal → Option Value
moment_value (literal.Text text) = option_map (λ second. Num (pos second)) (moment_of text)
moment_value _ = None

-- any text
abbrev pub text_value : Literal → Option Value
text_value (literal.Text text) = Some (Text text)
text_value _ = None

-- a text of at most so many bytes, with zero bytes behind it
abbrev pub fixed_value : (size : ℕ) → Literal → Option Value
fixed_value size (literal.Text text) =
    if nat_le (length text) size then Some (Text (text ++ replicate (size - length text) 0)) else None
fixed_value size _ = None

-- beside a type that is neither a Nullable nor an array
abbrev pub value_at : Ty-F Ty → Literal → Option Value
value_at (Ty-F.UInt width) given = integer_value given
value_at (Ty-F.Int width) given = integer_value given
value_at Ty-F.Date given = date_literal_value given
value_at Ty-F.Moment given = moment_value given
value_at Ty-F.Str given = text_value given
value_at (Ty-F.FixedString size) given = fixed_value size given
value_at _ given = None

-- the value that a literal is beside a column of this type, if it suits it
abbrev pub literal_value_of : Ty → Literal → Option Value
literal_value_of ty given = value_at (out-Ty (inside ty)) given

-- the value that a literal is beside the elements of an array, if it suits them
abbrev pub element_value_at : Ty-F Ty → Literal → Option Value
element_value_at (Ty-F.Array inner) given = literal_value_of inner given
element_value_at _ given = None

-- the same of a column of this type
abbrev pub element_value_of : Ty → Literal → Option Value
element_value_of ty given = element_value_at (out-Ty ty) given

-- what a column's texts may begin with: a text, for FixedString(N) of at most N bytes
abbrev pub prefix_at : Ty-F Ty → List ℕ → Option (List ℕ)
prefix_at Ty-F.Str text = Some text
prefix_at (Ty-F.FixedString size) text = if nat_le (length text) size then Some text else None
prefix_at _ text = None

-- the same of a column of this type
abbrev pub prefix_of : Ty → List ℕ → Option (List ℕ)
prefix_of ty text = prefix_at (out-Ty (inside ty)) text
