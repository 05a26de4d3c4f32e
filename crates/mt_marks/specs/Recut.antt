-- What is the same wherever the frames of a payload are cut: docs/FORMAT.md, "Frames" and "Marks".
use Rattle.std.specs.Prelude.{ℕ, List, Result, Ok}
use Rattle.mt_defs.specs.declared.mark.Mark.{Mark}
use Rattle.mt_defs.specs.Frames.{payload_of}
use Rattle.mt_defs.specs.Marks.{MarksPosition}
use Rattle.mt_frame.specs.declared.fault.FrameWhy.{FrameWhy}
use Rattle.mt_frame.specs.FrameReading.{frames_reading}
use Rattle.mt_types.specs.Steps.{◌>>=◌}

-- the payload of a file's frames, or the first offset at which none stands, and why
abbrev pub payload_reading : List ℕ → Result (List ℕ) (ℕ × FrameWhy)
payload_reading file = frames_reading file >>= λ blocks. Ok (payload_of blocks)

-- some mark of the file denotes the position
abbrev pub HasMark : List ℕ → ℕ → Type 0
HasMark file position = (mark : Mark) × MarksPosition file mark position
