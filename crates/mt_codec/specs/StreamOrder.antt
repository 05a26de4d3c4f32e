-- The substreams of a type, in their order: docs/FORMAT.md, "Substreams" (ClickHouse:
-- ISerialization::enumerateStreams).
use Rattle.std.specs.Prelude.{ℕ, ◌+◌, List, [], ◌∷◌}
use Rattle.mt_types.specs.declared.ty.Ty.{Ty}
use Rattle.mt_types.specs.declared.ty.Ty.TheOpen.{Ty-F}
use Rattle.mt_types.specs.declared.ty.Ty.TheFolds.{fold-Ty}
use Rattle.mt_codec.specs.declared.stream.Stream.{Stream}
use Rattle.mt_codec.specs.declared.stream.Stream.TheVariants.{Sizes, Nulls, Items}

-- the substreams of a type inside so many arrays, where those of the type inside it are given
abbrev pub order_step : Ty-F (ℕ → List Stream) → ℕ → List Stream
order_step (Ty-F.Nullable inner) level = Nulls ∷ inner level
order_step (Ty-F.Array inner) level = Sizes level ∷ inner (level + 1)
order_step _ level = Items ∷ []

-- the substreams of a type inside so many arrays
abbrev pub streams_from : Ty → ℕ → List Stream
streams_from = fold-Ty (ℕ → List Stream) order_step

-- the substreams of a type
abbrev pub streams_of : Ty → List Stream
streams_of ty = streams_from ty 0
