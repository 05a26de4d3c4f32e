-- The writer's substreams: docs/FORMAT.md, "Substreams". The default stands in the place of NULL.
use Rattle.std.specs.Prelude.{ℕ, if◌then◌else◌, List, [], ◌∷◌, map}
use Rattle.std.specs.List.{flat_map}
use Rattle.mt_types.specs.declared.ty.Ty.{Ty, map-Ty, roll-Ty}
use Rattle.mt_types.specs.declared.ty.Ty.TheOpen.{Ty-F}
use Rattle.mt_types.specs.declared.ty.Ty.TheFolds.{fold-Ty}
use Rattle.mt_types.specs.declared.value.Value.{Value, out-Value}
use Rattle.mt_types.specs.declared.value.Value.TheOpen.{Value-F}
use Rattle.mt_types.specs.Items.{item_bytes}
use Rattle.mt_types.specs.Defaults.{default_of}
use Rattle.mt_defs.specs.Encoding.{is_null, null_byte, size_bytes}

-- the elements of a value that is an array, or none
abbrev pub elements_at : Value-F Value → List Value
elements_at (Value-F.List elements) = elements
elements_at _ = []

-- the elements of each array
abbrev pub arrays_of : List Value → List (List Value)
arrays_of values = map (λ value. elements_at (out-Value value)) values

-- the value, or the default in the place of NULL
abbrev pub or_default : Value → Value → Value
or_default default value = if is_null value then default else value

-- a type, and how the writer encodes its values
pub record Encoder : Type 0 where
  pub ty : Ty
  pub streams : List Value → List (List ℕ)

-- the writer's substreams of a type, where those of the type inside are given
abbrev pub streams_step : Ty → Ty-F Encoder → List Value → List (List ℕ)
streams_step ty (Ty-F.Nullable inner) values = map null_byte values ∷ inner.streams (map (or_default (default_of inner.ty)) values)
streams_step ty (Ty-F.Array inner) values = size_bytes (arrays_of values) ∷ inner.streams (flat_map (λ elements. elements) (arrays_of values))
streams_step ty _ values = flat_map (item_bytes ty) values ∷ []

-- the type of a level, and how its values are encoded
abbrev pub encoder_step : Ty-F Encoder → Encoder
encoder_step level =
    let ty : Ty = roll-Ty (map-Ty Encoder Ty (λ inner. inner.ty) level) in
    record { ty = ty; streams = streams_step ty level }

-- the writer's substreams of some values of a type
abbrev pub written_streams : Ty → List Value → List (List ℕ)
written_streams ty = (fold-Ty Encoder encoder_step ty).streams
