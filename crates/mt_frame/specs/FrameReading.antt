-- The frames of a file, or the first offset at which none stands, and why: docs/FORMAT.md, "Frames".
use Rattle.std.specs.Prelude.{ℕ, zero, suc, ◌+◌, nat_lt, nat_le, ◌==◌, ◌&&◌, List, [], ◌∷◌, length, take, drop, slice_index, Result, Ok, Err}
use Rattle.std.specs.Int.{w32, from_le_bytes}
use Rattle.mt_defs.specs.declared.frame.TheConstants.{CHECKSUM_BYTES, METHOD_NONE, SIZES_EXTRA, HEADER_BYTES, MAX_PAYLOAD}
use Rattle.mt_defs.specs.declared.frame.Frame.{Frame}
use Rattle.mt_defs.specs.Frames.{Block}
use Rattle.mt_frame.specs.declared.fault.FrameWhy.{FrameWhy}
use Rattle.mt_frame.specs.declared.fault.FrameWhy.TheVariants.{Cut, Method, Sizes, TooLong}
use Rattle.mt_types.specs.Steps.{◌>>=◌, require, at, onto}

-- the little-endian number at an offset
abbrev pub u32_at : ℕ → List ℕ → ℕ
u32_at offset bytes = from_le_bytes w32 (take 4 (drop offset bytes))

-- the frame at the start of some bytes and what follows it, or the first condition that they break (F1 to F5)
unfoldable pub frame_reading : List ℕ → Result (Block × List ℕ) FrameWhy
frame_reading bytes = do
  _ ← require (nat_le HEADER_BYTES (length bytes)) Cut
  _ ← require (slice_index bytes 16 == METHOD_NONE) Method
  _ ← require ((u32_at 17 bytes == u32_at 21 bytes + SIZES_EXTRA) && nat_lt 0 (u32_at 21 bytes)) Sizes
  _ ← require (nat_le (u32_at 21 bytes) MAX_PAYLOAD) TooLong
  _ ← require (nat_le (HEADER_BYTES + u32_at 21 bytes) (length bytes)) Cut
  Ok (record { checksum = take CHECKSUM_BYTES bytes; payload = take (u32_at 21 bytes) (drop HEADER_BYTES bytes) }, drop (HEADER_BYTES + u32_at 21 bytes) bytes)

-- the frames of bytes that stand at an offset, at most so many
unfoldable pub frames_from : ℕ → ℕ → List ℕ → Result (List Block) (ℕ × FrameWhy)
frames_from most offset [] = Ok []
frames_from zero offset (byte ∷ bytes) = Err (offset, Cut)
frames_from (suc most) offset (byte ∷ bytes) = do
  first ← at offset (frame_reading (byte ∷ bytes))
  onto first.0 (frames_from most (offset + (HEADER_BYTES + length first.0.payload)) first.1)

-- the frames of a file, or the first offset at which none stands; a file has fewer frames than bytes
abbrev pub frames_reading : List ℕ → Result (List Block) (ℕ × FrameWhy)
frames_reading file = frames_from (length file) 0 file

-- where frames stand, the first at this offset, and how long their payloads are
unfoldable pub layout_from : ℕ → List Block → List Frame
layout_from offset [] = []
layout_from offset (block ∷ blocks) = record { offset = offset; payload = length block.payload } ∷ layout_from (offset + (HEADER_BYTES + length block.payload)) blocks

-- where the frames of a file stand
abbrev pub layout : List Block → List Frame
layout blocks = layout_from 0 blocks
