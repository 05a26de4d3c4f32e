-- Names read: the type of the profile that a text names, if there is one. `Names` and `Profile` say
-- which that is; this is the same from the text's side, and laws in src/law.rt say that it is.
use Rattle.std.specs.Prelude.{◌≡◌, ℕ, zero, suc, ◌+◌, ◌*◌, ◌-◌, ◌==◌, nat_le, Bool, ◌&&◌, List, [], ◌∷◌, Option, Some, None, option_map, option_and_then, Result, Ok, Err, if◌then◌else◌, codes}
use Rattle.std.specs.Str.{bytes_eq}
use Rattle.mt_types.specs.declared.limits.TheConstants.{MAX_FIXED_STRING, MAX_ARRAY_DEPTH}
use Rattle.mt_types.specs.declared.ty.Width.{Width}
use Rattle.mt_types.specs.declared.ty.Width.TheVariants.{W8, W16, W32, W64, W128}
use Rattle.mt_types.specs.declared.ty.Agg.TheVariants.{Sum, Min, Max}
use Rattle.mt_types.specs.declared.ty.Ty.{Ty}
use Rattle.mt_types.specs.declared.ty.Ty.TheVariants.{UInt, Int, FixedString, Str, Date, Moment, Nullable, Array, State, CountState}
use Rattle.mt_types.specs.declared.ty.error.TyError.{TyError}
use Rattle.mt_types.specs.declared.ty.error.TyError.TheVariants.{NotAType, NoMemory}
use Rattle.mt_types.specs.Names.{state_opening}

-- what follows a prefix
abbrev pub after_prefix : (prefix : List ℕ) → (text : List ℕ) → Option (List ℕ)
after_prefix [] text = Some text
after_prefix (p ∷ prefix) [] = None
after_prefix (p ∷ prefix) (b ∷ text) = if p == b then after_prefix prefix text else None

-- what stands before a closing parenthesis, the last byte
abbrev pub before_close : List ℕ → Option (List ℕ)
before_close [] = None
before_close (b ∷ []) = if b == 41 then Some [] else None
before_close (b ∷ c ∷ text) = option_map (λ inner. b ∷ inner) (before_close (c ∷ text))

-- what stands between an opening and a closing parenthesis
abbrev pub between : (opening : List ℕ) → (text : List ℕ) → Option (List ℕ)
between opening text = option_and_then before_close (after_prefix opening text)

-- where there is an inner text, what is made of its reading; else another reading
abbrev pub within : {X : Type 0} → (make : X → Ty) → (read : List ℕ → Option X)
    → (otherwise : Option Ty) → (inner : Option (List ℕ)) → Option Ty
within make read otherwise None = otherwise
within make read otherwise (Some text) = option_map make (read text)

-- the width of so many bits, at most 64
abbrev pub width_named : List ℕ → Option Width
width_named text =
    if bytes_eq text (codes "8") then Some W8
    else if bytes_eq text (codes "16") then Some W16
    else if bytes_eq text (codes "32") then Some W32
    else if bytes_eq text (codes "64") then Some W64
    else None

-- an integer type of at most 64 bits
abbrev pub integer_named : List ℕ → Option Ty
integer_named text =
    within UInt width_named
    (within Int width_named None (after_prefix (codes "Int") text))
    (after_prefix (codes "UInt") text)

-- an integer type of at most 64 bits, or Date
abbrev pub number_named : List ℕ → Option Ty
number_named text = if bytes_eq text (codes "Date") then Some Date else integer_named text

-- a number with one decimal digit more
abbrev pub with_digit : (size : ℕ) → (digit : ℕ) → ℕ
with_digit size digit = size * 10 + (digit - 48)

-- the byte is a digit, with which the size is neither 0 nor above its limit
abbrev pub is_next_digit : (size : ℕ) → (digit : ℕ) → Bool
is_next_digit size digit =
    nat_le 48 digit && nat_le digit 57
    && nat_le 1 (with_digit size digit) && nat_le (with_digit size digit) MAX_FIXED_STRING

-- a size with one digit more
abbrev pub next_size : (size : ℕ) → (digit : ℕ) → Option ℕ
next_size size digit = if is_next_digit size digit then Some (with_digit size digit) else None

-- a size with these digits more
abbrev pub size_from : (size : ℕ) → List ℕ → Option ℕ
size_from size [] = Some size
size_from size (digit ∷ digits) =
    option_and_then (λ next. size_from next digits) (next_size size digit)

-- the size of a FixedString, in decimal without leading zeros
abbrev pub size_named : List ℕ → Option ℕ
size_named [] = None
size_named (digit ∷ digits) = size_from 0 (digit ∷ digits)

-- FixedString, an integer type of at most 64 bits, or Date
abbrev pub sized_named : List ℕ → Option Ty
sized_named text = within FixedString size_named (number_named text) (between (codes "FixedString(") text)

-- an integer type, Date, DateTime('UTC'), String or FixedString
abbrev pub scalar_named : List ℕ → Option Ty
scalar_named text =
    if bytes_eq text (codes "String") then Some Str
    else if bytes_eq text (codes "DateTime('UTC')") then Some Moment
    else if bytes_eq text (codes "UInt128") then Some (UInt W128)
    else if bytes_eq text (codes "Int128") then Some (Int W128)
    else sized_named text

-- such a type, or Nullable of one
abbrev pub optional_named : List ℕ → Option Ty
optional_named text =
    within Nullable scalar_named (scalar_named text) (between (codes "Nullable(") text)

-- such a type, inside at most so many arrays
abbrev pub nested_named : (arrays : ℕ) → List ℕ → Option Ty
nested_named zero text = optional_named text
nested_named (suc arrays) text =
    within Array (nested_named arrays) (optional_named text) (between (codes "Array(") text)

-- a state's type, or another reading
abbrev pub state_named : List ℕ → (otherwise : Option Ty) → Option Ty
state_named text otherwise =
    within (State Sum) integer_named
    (within (State Min) number_named
    (within (State Max) number_named otherwise (between (state_opening Max) text))
    (between (state_opening Min) text))
    (between (state_opening Sum) text)

-- the type of the profile that a text names
abbrev pub type_named : List ℕ → Option Ty
type_named text =
    if bytes_eq text (codes "AggregateFunction(count)") then Some CountState
    else state_named text (nested_named MAX_ARRAY_DEPTH text)

-- a reading's answer; out of memory says nothing
abbrev pub GivesType : Result Ty TyError → Option Ty → Type 0
GivesType (Ok t) named = named ≡ Some t
GivesType (Err NotAType) named = named ≡ None
GivesType (Err NoMemory) named = Unit {0}
