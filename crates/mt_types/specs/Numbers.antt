-- The types whose values are numbers, and the bytes of their items: docs/FORMAT.md, "Types and values".
use Rattle.std.specs.Prelude.{ℕ, Bool, true, false}
use Rattle.std.specs.Int.{w128, cast_unsigned}
use Rattle.mt_types.specs.declared.ty.Width.{Width}
use Rattle.mt_types.specs.declared.ty.Width.TheVariants.{W8, W16, W32, W64, W128}
use Rattle.mt_types.specs.declared.ty.Ty.{Ty, out-Ty}
use Rattle.mt_types.specs.declared.ty.Ty.TheOpen.{Ty-F}
use Rattle.mt_types.specs.declared.value.Value.TheOpen.{Value-F}

-- the same by the outermost level of the type
abbrev pub is_number_at : {X : Type 0} → Ty-F X → Bool
is_number_at (Ty-F.UInt width) = true
is_number_at (Ty-F.Int width) = true
is_number_at Ty-F.Date = true
is_number_at Ty-F.Moment = true
is_number_at _ = false

-- a type of integers, of days or of seconds
abbrev pub is_number_type : Ty → Bool
is_number_type ty = is_number_at (out-Ty ty)

-- a width of at most 64 bits
abbrev pub is_narrow : Width → Bool
is_narrow W128 = false
is_narrow _ = true

-- the same by the outermost level of the type
abbrev pub is_argument_at : {X : Type 0} → Ty-F X → Bool
is_argument_at (Ty-F.UInt width) = is_narrow width
is_argument_at (Ty-F.Int width) = is_narrow width
is_argument_at Ty-F.Date = true
is_argument_at _ = false

-- a type that min and max are over: integers of at most 64 bits, or days
abbrev pub is_argument_type : Ty → Bool
is_argument_type ty = is_argument_at (out-Ty ty)

-- the bytes of an integer
abbrev pub width_size : Width → ℕ
width_size W8 = 1
width_size W16 = 2
width_size W32 = 4
width_size W64 = 8
width_size W128 = 16

-- the same by the outermost level of the type
abbrev pub number_size_at : {X : Type 0} → Ty-F X → ℕ
number_size_at (Ty-F.UInt width) = width_size width
number_size_at (Ty-F.Int width) = width_size width
number_size_at Ty-F.Date = 2
number_size_at Ty-F.Moment = 4
number_size_at _ = 0

-- the bytes of an item of a type whose values are numbers
abbrev pub number_size : Ty → ℕ
number_size ty = number_size_at (out-Ty ty)

-- the 128 bits of a number, in two's complement where it is negative; 0 for what is no number
abbrev pub bits_in : {X : Type 0} → Value-F X → ℕ
bits_in (Value-F.Num n) = cast_unsigned w128 n
bits_in (Value-F.Huge n) = n
bits_in _ = 0
