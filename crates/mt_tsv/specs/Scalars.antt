-- Integers, dates, moments and texts alone: docs/LANGUAGE.md, "Lines".
use Rattle.std.specs.Prelude.{ℕ, ◌^◌, List, [], ◌∷◌, length, Result, Ok, Err, Option, Some, None, nat_lt, ◌==◌, if◌then◌else◌, ℤ, pos, neg_ℤ, Bool}
use Rattle.std.specs.Str.{all_ascii_digits}
use Rattle.std.specs.Str.Parse.{digits_value_after}
use Rattle.mt_types.specs.declared.ty.Ty.{Ty, out-Ty}
use Rattle.mt_types.specs.declared.ty.Ty.TheOpen.{Ty-F}
use Rattle.mt_types.specs.declared.value.Value.{Value}
use Rattle.mt_types.specs.declared.value.Value.TheVariants.{Num, Text}
use Rattle.mt_types.specs.Fits.{bits, is_unsigned, is_signed, number_value}
use Rattle.mt_tsv.specs.declared.ascii.TheConstants.{MINUS}
use Rattle.mt_types.specs.declared.limits.TheConstants.{MAX_TEXT}
use Rattle.mt_tsv.specs.declared.fault.RowWhy.{RowWhy}
use Rattle.mt_tsv.specs.declared.fault.RowWhy.TheVariants.{Number, Range, Date, List as BadList}
use Rattle.mt_types.specs.Steps.{◌>>=◌}
use Rattle.mt_tsv.specs.Results.{unless_bad}
use Rattle.mt_calendar.specs.Dates.{date_of}
use Rattle.mt_calendar.specs.Moments.{moment_of}
use Rattle.mt_tsv.specs.Texts.{bounded_text, padded_text}

-- the number of the digits of another number and these; no type has 2 ^ 128 or more
unfoldable pub magnitude_after : ℕ → List ℕ → Result ℕ RowWhy
magnitude_after first text =
    unless_bad (all_ascii_digits text) Number
    (unless_bad (nat_lt (digits_value_after 10 first text) (2 ^ 128)) Range (Ok (digits_value_after 10 first text)))

-- the number of digits alone
unfoldable pub magnitude_of : List ℕ → Result ℕ RowWhy
magnitude_of text = unless_bad (nat_lt 0 (length text)) Number (magnitude_after 0 text)

-- an integer: digits, or a minus and digits
unfoldable pub integer_of : List ℕ → Result ℤ RowWhy
integer_of [] = Err Number
integer_of (c ∷ text) =
    if c == MINUS then (magnitude_of text >>= λ n. Ok (neg_ℤ (pos n)))
    else (magnitude_of (c ∷ text) >>= λ n. Ok (pos n))

-- an integer of the type that has this test
unfoldable pub whole_number_of : (ℤ → Bool) → List ℕ → Result ℤ RowWhy
whole_number_of is_in_type text = do
  n ← integer_of text
  unless_bad (is_in_type n) Range (Ok n)

-- an integer of the type that has this test, as a value
abbrev pub whole_of : (ℤ → Bool) → List ℕ → Result Value RowWhy
whole_of is_in_type text = whole_number_of is_in_type text >>= λ n. Ok (number_value n)

-- the day of a date or the second of a moment, which must be one
abbrev pub date_value : Option ℕ → Result Value RowWhy
date_value (Some count) = Ok (Num (pos count))
date_value None = Err Date

-- the value of a type that is no Nullable, array or state
abbrev pub scalar_at : {X : Type 0} → Ty-F X → List ℕ → Result Value RowWhy
scalar_at (Ty-F.UInt width) text = whole_of (is_unsigned (bits width)) text
scalar_at (Ty-F.Int width) text = whole_of (is_signed (bits width)) text
scalar_at (Ty-F.FixedString size) text = padded_text size text >>= λ bytes. Ok (Text bytes)
scalar_at Ty-F.Str text = bounded_text MAX_TEXT text >>= λ bytes. Ok (Text bytes)
scalar_at Ty-F.Date text = date_value (date_of text)
scalar_at Ty-F.Moment text = date_value (moment_of text)
scalar_at _ text = Err BadList

-- the same of a written-out type
unfoldable pub scalar_of : Ty → List ℕ → Result Value RowWhy
scalar_of ty text = scalar_at (out-Ty ty) text
