-- The serialization of a column: docs/FORMAT.md, "Substreams" (ClickHouse: ISerialization).
use Rattle.std.specs.Prelude.{◌≡◌, ℕ, List, [], ◌∷◌, length, map, IsTrue, Bool, true, false, if◌then◌else◌}
use Rattle.std.specs.List.{list_all, flat_map}
use Rattle.std.specs.Int.{w64, to_le_bytes}
use Rattle.mt_types.specs.declared.ty.Ty.{Ty, map-Ty, roll-Ty}
use Rattle.mt_types.specs.declared.ty.Ty.TheOpen.{Ty-F}
use Rattle.mt_types.specs.declared.ty.Ty.TheFolds.{rec-Ty}
use Rattle.mt_types.specs.declared.value.Value.{Value, out-Value}
use Rattle.mt_types.specs.declared.value.Value.TheOpen.{Value-F}
use Rattle.mt_types.specs.declared.value.Value.TheVariants.{List as Items}
use Rattle.mt_types.specs.Fits.{fits_of}
use Rattle.mt_types.specs.Items.{item_bytes}
use Rattle.mt_defs.specs.Lists.{Pointwise}

-- the value is NULL, by its level
abbrev pub is_null_at : Value-F Value → Bool
is_null_at Value-F.Null = true
is_null_at _ = false

-- the value is NULL
abbrev pub is_null : Value → Bool
is_null value = is_null_at (out-Value value)

-- the byte of a null map: 1 for NULL
abbrev pub null_byte : Value → ℕ
null_byte value = if is_null value then 1 else 0

-- an item that may stand for a value: the value itself, or any under NULL
abbrev pub IsItemFor : Value → Value → Type 0
IsItemFor value item = is_null value ≡ false → value ≡ item

-- the lengths of arrays, as UInt64
abbrev pub size_bytes : List (List Value) → List ℕ
size_bytes arrays = flat_map (λ elements. to_le_bytes w64 (length elements)) arrays

-- ---- the substreams of each kind of type

-- what the substreams of a type say of the values
abbrev pub Encoding : Type 1
Encoding = List Value → List (List ℕ) → Type 0

-- one substream: the items one after another
abbrev pub EncodesItems : (Value → List ℕ) → Encoding
EncodesItems bytes_of values streams = streams ≡ flat_map bytes_of values ∷ []

-- a null map with a byte per value, and then the items of the type inside, one per value
abbrev pub EncodesNullable : (Value → Bool) → Encoding → Encoding
EncodesNullable fits inner values [] = ⊥
EncodesNullable fits inner values (null_map ∷ streams) =
    (null_map ≡ map null_byte values)
    × ((items : List Value) × Pointwise IsItemFor values items × IsTrue (list_all fits items) × inner items streams)

-- the sizes of the arrays, and then all their elements one after another
abbrev pub EncodesArray : Encoding → Encoding
EncodesArray inner values [] = ⊥
EncodesArray inner values (sizes ∷ streams) =
    (arrays : List (List Value)) × (values ≡ map Items arrays) × (sizes ≡ size_bytes arrays)
    × inner (flat_map (λ elements. elements) arrays) streams

-- what the substreams of a type say, where those of the type inside are given
abbrev pub encoding_step : (X : Type 0) → (X → Ty) → (X → Encoding) → Ty-F X → Encoding
encoding_step X type_of encoding (Ty-F.Nullable inner) = EncodesNullable (fits_of (type_of inner)) (encoding inner)
encoding_step X type_of encoding (Ty-F.Array inner) = EncodesArray (encoding inner)
encoding_step X type_of encoding level = EncodesItems (item_bytes (roll-Ty (map-Ty X Ty type_of level)))

-- what the substreams of this type say of the values
abbrev pub EncodesAs : Ty → Encoding
EncodesAs = rec-Ty Encoding encoding_step

-- the substreams encode these values, each one of the type's
pub record Encodes (ty : Ty) (values : List Value) (streams : List (List ℕ)) : Type 0 where
  pub fit : IsTrue (list_all (fits_of ty) values)
  pub encoded : EncodesAs ty values streams
