-- The values that substreams serialize, or the first fault: docs/FORMAT.md, "Substreams"
-- (ClickHouse: ISerialization::deserializeBinaryBulkWithMultipleStreams).
use Rattle.std.specs.Prelude.{ℕ, zero, suc, ◌+◌, nat_le, ◌==◌, if◌then◌else◌, Bool, true, false, List, [], ◌∷◌, take, drop, sum, Result, Ok, Err}
use Rattle.std.specs.Int.{w64}
use Rattle.mt_types.specs.declared.limits.TheConstants.{MAX_ELEMENTS}
use Rattle.mt_types.specs.declared.ty.Ty.{Ty, map-Ty, roll-Ty}
use Rattle.mt_types.specs.declared.ty.Ty.TheOpen.{Ty-F}
use Rattle.mt_types.specs.declared.ty.Ty.TheFolds.{fold-Ty}
use Rattle.mt_types.specs.declared.value.Value.{Value}
use Rattle.mt_types.specs.declared.value.Value.TheVariants.{Null, List as Items}
use Rattle.mt_types.specs.Steps.{◌>>=◌, require, at}
use Rattle.mt_item.specs.declared.fault.CodecWhy.{CodecWhy}
use Rattle.mt_item.specs.declared.fault.CodecWhy.TheVariants.{Short, Over, NullByte, TooLong}
use Rattle.mt_item.specs.ItemReading.{First, whole_front, item_front}

-- ---- the items that are not values

-- a byte of a null map
unfoldable pub null_front : List ℕ → First ℕ
null_front [] = Err Short
null_front (byte ∷ rest) = require (nat_le byte 1) NullByte >>= λ _. Ok (byte, rest)

-- the size of an array
unfoldable pub size_front : List ℕ → First ℕ
size_front bytes = do
  size ← whole_front w64 bytes
  _ ← require (nat_le size.0 MAX_ELEMENTS) TooLong
  Ok size

-- ---- substreams

-- what is read, or which substream, which item of it, and what is wrong
abbrev pub Read : Type 0 → Type 0
Read A = Result A (ℕ × (ℕ × CodecWhy))

-- so many items, the first of which is this one, and the bytes that follow them
unfoldable pub items_from : {A : Type 0} → (List ℕ → First A) → (item count : ℕ) → List ℕ → Result (List A × List ℕ) (ℕ × CodecWhy)
items_from front item zero bytes = Ok ([], bytes)
items_from front item (suc count) bytes = do
  first ← at item (front bytes)
  more ← items_from front (item + 1) count first.1
  Ok (first.0 ∷ more.0, more.1)

abbrev pub is_empty : List ℕ → Bool
is_empty [] = true
is_empty (byte ∷ bytes) = false

-- after the items of a substream: where substreams are apart nothing may be left; else the next one
-- begins there
unfoldable pub after_items : (apart : Bool) → (stream count : ℕ) → List ℕ → List (List ℕ) → Read (List (List ℕ))
after_items true stream count rest others = require (is_empty rest) (stream, (count, Over)) >>= λ _. Ok others
after_items false stream count rest others = Ok (rest ∷ others)

-- a substream of so many items, and the substreams that follow it
unfoldable pub stream_from : {A : Type 0} → (apart : Bool) → (List ℕ → First A) → (stream count : ℕ) → List (List ℕ) → Read (List A × List (List ℕ))
stream_from apart front stream count [] = Err (stream, (0, Short))
stream_from apart front stream count (bytes ∷ others) = do
  read ← at stream (items_from front 0 count bytes)
  left ← after_items apart stream count read.1 others
  Ok (read.0, left)

-- ---- columns

-- so many values, the first of whose substreams is this one, and the substreams that follow theirs
abbrev pub Column : Type 0
Column = (stream count : ℕ) → List (List ℕ) → Read (List Value × List (List ℕ))

-- NULL where the null map has a 1, and the item's value elsewhere
abbrev pub nulled : List ℕ → List Value → List Value
nulled (byte ∷ bytes) (value ∷ values) = (if byte == 1 then Null else value) ∷ nulled bytes values
nulled _ _ = []

-- arrays of these sizes, cut of their elements
abbrev pub arrays_from : List ℕ → List Value → List Value
arrays_from [] elements = []
arrays_from (size ∷ sizes) elements = Items (take size elements) ∷ arrays_from sizes (drop size elements)

-- a null map, and then as many values of the type inside
unfoldable pub nullable_from : (apart : Bool) → Column → Column
nullable_from apart inner stream count streams = do
  nulls ← stream_from apart null_front stream count streams
  values ← inner (stream + 1) count nulls.1
  Ok (nulled nulls.0 values.0, values.1)

-- sizes, and then as many elements as they sum to
unfoldable pub array_from : (apart : Bool) → Column → Column
array_from apart inner stream count streams = do
  sizes ← stream_from apart size_front stream count streams
  elements ← inner (stream + 1) (sum sizes.0) sizes.1
  Ok (arrays_from sizes.0 elements.0, elements.1)

-- a type, and how its values are read
pub record Reader : Type 0 where
  pub ty : Ty
  pub column : Column

abbrev pub column_step : (apart : Bool) → Ty → Ty-F Reader → Column
column_step apart ty (Ty-F.Nullable inner) = nullable_from apart inner.column
column_step apart ty (Ty-F.Array inner) = array_from apart inner.column
column_step apart ty _ = stream_from apart (item_front ty)

abbrev pub reader_step : (apart : Bool) → Ty-F Reader → Reader
reader_step apart level =
    let ty : Ty = roll-Ty (map-Ty Reader Ty (λ inner. inner.ty) level) in
    record { ty = ty; column = column_step apart ty level }

-- the values of a type
abbrev pub column_from : (apart : Bool) → Ty → Column
column_from apart ty = (fold-Ty Reader (reader_step apart) ty).column

-- ---- the substreams of a column, each in its own bytes or one after another

-- so many values of a type from a list of bytes for each substream
abbrev pub decode_reading : Ty → ℕ → List (List ℕ) → Read (List Value)
decode_reading ty rows streams = column_from true ty 0 rows streams >>= λ read. Ok read.0

-- the one list of bytes that is left
abbrev pub bytes_left : List (List ℕ) → List ℕ
bytes_left [] = []
bytes_left (bytes ∷ others) = bytes

-- so many values of a type from substreams that follow each other, and the bytes that follow them
abbrev pub front_reading : Ty → ℕ → List ℕ → Read (List Value × List ℕ)
front_reading ty rows bytes = column_from false ty 0 rows (bytes ∷ []) >>= λ read. Ok (read.0, bytes_left read.1)
