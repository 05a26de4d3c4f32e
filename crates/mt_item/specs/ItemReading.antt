-- The item that some bytes begin with: docs/FORMAT.md, "Types and values" and "Substreams".
use Rattle.std.specs.Prelude.{ℕ, zero, suc, ◌+◌, ◌-◌, ◌*◌, nat_lt, nat_le, ◌==◌, not, if◌then◌else◌, ℤ, pos, List, [], ◌∷◌, length, take, drop, Option, Some, None, Result, Ok, Err}
use Rattle.std.specs.Int.{Width as Bits, w16, w32, w64, byte_len, from_le_bytes, cast_signed}
use Rattle.mt_types.specs.declared.limits.TheConstants.{MAX_TEXT}
use Rattle.mt_types.specs.declared.ty.Agg.{Agg}
use Rattle.mt_types.specs.declared.ty.Agg.TheVariants.{Sum, Min, Max}
use Rattle.mt_types.specs.declared.ty.Ty.{Ty, out-Ty}
use Rattle.mt_types.specs.declared.ty.Ty.TheOpen.{Ty-F}
use Rattle.mt_types.specs.declared.value.AggState.{AggState}
use Rattle.mt_types.specs.declared.value.AggState.TheVariants as state
use Rattle.mt_types.specs.declared.value.Value.{Value}
use Rattle.mt_types.specs.declared.value.Value.TheVariants.{Text, State}
use Rattle.mt_types.specs.Fits.{number_value}
use Rattle.mt_types.specs.Items.{width}
use Rattle.mt_types.specs.Steps.{◌>>=◌, require}
use Rattle.mt_item.specs.declared.fault.CodecWhy.{CodecWhy}
use Rattle.mt_item.specs.declared.fault.CodecWhy.TheVariants.{Short, Length, HasByte, TooLong}

-- what bytes begin with, and the bytes that follow it; or what is wrong
abbrev pub First : Type 0 → Type 0
First A = Result (A × List ℕ) CodecWhy

-- what was read, as another thing
abbrev pub read_as : {A B : Type 0} → (A → B) → First A → First B
read_as f read = read >>= λ first. Ok (f first.0, first.1)

-- so many bytes
abbrev pub bytes_front : ℕ → List ℕ → First (List ℕ)
bytes_front count bytes = require (nat_le count (length bytes)) Short >>= λ _. Ok (take count bytes, drop count bytes)

-- a little-endian number
abbrev pub whole_front : Bits → List ℕ → First ℕ
whole_front w bytes = read_as (from_le_bytes w) (bytes_front (byte_len w) bytes)

-- ---- lengths and counts

-- the seven bits of this byte, and those of the bytes behind it
abbrev pub with_low : ℕ → First ℕ → First ℕ
with_low byte high = read_as (λ n. byte - 128 + 128 * n) high

-- the later bytes of a minimal LEB128 number: so many, and then one that is 1; the last isn't 0
unfoldable pub later_front : ℕ → List ℕ → First ℕ
later_front more [] = Err Short
later_front zero (byte ∷ rest) = require (byte == 1) Length >>= λ _. Ok (byte, rest)
later_front (suc more) (byte ∷ rest) =
    if nat_lt byte 128 then (require (not (byte == 0)) Length >>= λ _. Ok (byte, rest))
    else with_low byte (later_front more rest)

-- a minimal LEB128 number below 2^64, which takes at most ten bytes
unfoldable pub leb128_front : List ℕ → First ℕ
leb128_front [] = Err Short
leb128_front (byte ∷ rest) = if nat_lt byte 128 then Ok (byte, rest) else with_low byte (later_front 8 rest)

-- a text after its length
unfoldable pub text_front : List ℕ → First (List ℕ)
text_front bytes = do
  size ← leb128_front bytes
  _ ← require (nat_le size.0 MAX_TEXT) TooLong
  bytes_front size.0 size.1

-- ---- values

-- an integer, a day or a second; no other type has numbers
abbrev pub number_front : Ty-F Ty → List ℕ → First ℤ
number_front (Ty-F.UInt w) bytes = read_as (λ n. pos n) (whole_front (width w) bytes)
number_front (Ty-F.Int w) bytes = read_as (cast_signed (width w)) (whole_front (width w) bytes)
number_front Ty-F.Date bytes = read_as (λ n. pos n) (whole_front w16 bytes)
number_front Ty-F.Moment bytes = read_as (λ n. pos n) (whole_front w32 bytes)
number_front _ bytes = Err Short

-- what min and max have gathered: byte 0 for nothing, or byte 1 and a number
unfoldable pub held_front : (number : List ℕ → First ℤ) → List ℕ → First (Option ℤ)
held_front number [] = Err Short
held_front number (byte ∷ rest) = do
  _ ← require (nat_le byte 1) HasByte
  if byte == 0 then Ok (None, rest) else read_as (λ n. Some n) (number rest)

-- the state of an aggregate over an argument of this level
abbrev pub state_front : Agg → Ty-F Ty → List ℕ → First AggState
state_front Sum argument bytes = read_as (λ n. state.Sum n) (whole_front w64 bytes)
state_front Min argument bytes = read_as (λ n. state.Least n) (held_front (number_front argument) bytes)
state_front Max argument bytes = read_as (λ n. state.Greatest n) (held_front (number_front argument) bytes)

-- a value of a type of this level
abbrev pub item_front_at : Ty-F Ty → List ℕ → First Value
item_front_at (Ty-F.FixedString size) bytes = read_as (λ text. Text text) (bytes_front size bytes)
item_front_at Ty-F.Str bytes = read_as (λ text. Text text) (text_front bytes)
item_front_at (Ty-F.State agg argument) bytes = read_as (λ s. State s) (state_front agg (out-Ty argument) bytes)
item_front_at Ty-F.CountState bytes = read_as (λ n. State (state.Count n)) (leb128_front bytes)
item_front_at level bytes = read_as number_value (number_front level bytes)

-- the value whose item the bytes begin with, and the bytes that follow it; or what is wrong
abbrev pub item_front : Ty → List ℕ → First Value
item_front ty bytes = item_front_at (out-Ty ty) bytes
