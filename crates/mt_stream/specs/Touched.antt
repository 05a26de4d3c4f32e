-- Which frames of a data file reading some payloads touches, and how many bytes they have.
use Rattle.std.specs.Prelude.{◌≡◌, ◌≤◌, ℕ, ◌+◌, Bool, ◌&&◌, ◌||◌, ◌==◌, ◌⊎◌, nat_lt, nat_le, if◌then◌else◌, List, [], ◌∷◌, ◌++◌, length}
use Rattle.std.specs.List.{list_any}
use Rattle.mt_defs.specs.declared.mark.Mark.{Mark}
use Rattle.mt_defs.specs.Frames.{Block, block_bytes, file_of}
use Rattle.mt_defs.specs.Marks.{MarksFrame, MarksEnd}

-- the marks where a payload begins and where it ends
pub record MarkRange : Type 0 where
  pub begins : Mark
  pub ends : Mark

-- the frame at this offset is the first mark's, or lies between the marks, or holds a byte before the last mark
abbrev pub touches : ℕ → MarkRange → Bool
touches offset range =
    (range.begins.offset == offset)
    || (nat_lt range.begins.offset offset && (nat_lt offset range.ends.offset || ((range.ends.offset == offset) && nat_lt 0 range.ends.inner)))

-- the bytes of the frames that some payload touches, but for frames before an offset; the first stands at the other offset
abbrev pub touched_bytes : ℕ → ℕ → List Block → List MarkRange → ℕ
touched_bytes from offset [] ranges = 0
touched_bytes from offset (block ∷ blocks) ranges =
    (if nat_le from offset && list_any (touches offset) ranges then length (block_bytes block) else 0) + touched_bytes from (offset + length (block_bytes block)) blocks ranges

-- in a file of these frames the mark denotes this position
abbrev pub MarksBlocks : List Block → Mark → ℕ → Type 0
MarksBlocks blocks mark position = MarksFrame blocks mark position ⊎ MarksEnd blocks mark position

-- a frame begins at the offset, or the frames end there
pub record IsFrameStart (blocks : List Block) (offset : ℕ) : Type 0 where
  pub before : List Block
  pub rest : List Block
  pub split : blocks ≡ before ++ rest
  pub at_offset : offset ≡ length (file_of before)

-- two marks of a file of these frames that denote these positions, in order
pub record AreInOrder (blocks : List Block) (begins ends : Mark) (first last : ℕ) : Type 0 where
  pub begins_at : MarksBlocks blocks begins first
  pub ends_at : MarksBlocks blocks ends last
  pub offsets : begins.offset ≤ ends.offset
  pub positions : first ≤ last
