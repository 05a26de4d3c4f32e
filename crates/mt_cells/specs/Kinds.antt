-- Items of a fixed width, and the values that they stand for: docs/FORMAT.md, "Types and values".
use Rattle.std.specs.Prelude.{ℕ, zero, suc, pos, List, [], ◌∷◌, map, take, drop}
use Rattle.std.specs.Int.{from_le_bytes, cast_signed}
use Rattle.mt_types.specs.declared.ty.Ty.{Ty}
use Rattle.mt_types.specs.declared.ty.Ty.TheVariants.{UInt, Int, FixedString}
use Rattle.mt_types.specs.declared.value.Value.{Value}
use Rattle.mt_types.specs.declared.value.Value.TheVariants as value
use Rattle.mt_types.specs.Fits.{number_value}
use Rattle.mt_types.specs.Items.{width}
use Rattle.mt_types.specs.Numbers.{width_size}
use Rattle.mt_cells.specs.declared.kind.Kind.{Kind}
use Rattle.mt_cells.specs.declared.kind.Kind.TheVariants.{Unsigned, Signed, Text}

-- the bytes of an item
abbrev pub size_of : Kind → ℕ
size_of (Unsigned w) = width_size w
size_of (Signed w) = width_size w
size_of (Text size) = size

-- the value that an item stands for
abbrev pub value_of : Kind → List ℕ → Value
value_of (Unsigned w) item = number_value (pos (from_le_bytes (width w) item))
value_of (Signed w) item = value.Num (cast_signed (width w) (from_le_bytes (width w) item))
value_of (Text size) item = value.Text item

-- the type of such values; those of `Date` and `DateTime('UTC')` are as of `UInt16` and `UInt32`
abbrev pub type_of : Kind → Ty
type_of (Unsigned w) = UInt w
type_of (Signed w) = Int w
type_of (Text size) = FixedString size

-- the first so many bytes, the next so many, and so on
unfoldable pub chunks : (size count : ℕ) → List ℕ → List (List ℕ)
chunks size zero bytes = []
chunks size (suc count) bytes = take size bytes ∷ chunks size count (drop size bytes)

-- the values that so many items stand for
abbrev pub values_of : Kind → (count : ℕ) → List ℕ → List Value
values_of kind count bytes = map (value_of kind) (chunks (size_of kind) count bytes)

-- items as they are seen: what they stand for, and their values
pub record Typed : Type 0 where
  pub kind : Kind
  pub values : List Value
