-- Frames that lie one after another: docs/FORMAT.md, "Frames".
use Rattle.std.specs.Prelude.{ℕ, ◌+◌, nat_le, ◌==◌, ◌&&◌, Bool, List, [], ◌∷◌}
use Rattle.mt_defs.specs.declared.frame.TheConstants.{HEADER_BYTES, MAX_PAYLOAD}
use Rattle.mt_defs.specs.declared.frame.Frame.{Frame}

-- the frames lie end to end from one offset to another, with payloads within the limit
abbrev pub lie_end_to_end : ℕ → List Frame → ℕ → Bool
lie_end_to_end offset [] end = offset == end
lie_end_to_end offset (frame ∷ frames) end =
    (frame.offset == offset) && ((nat_le 1 frame.payload && nat_le frame.payload MAX_PAYLOAD)
    && lie_end_to_end (offset + (HEADER_BYTES + frame.payload)) frames end)
