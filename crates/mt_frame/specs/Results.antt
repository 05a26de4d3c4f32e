-- What the readers of frames give.
use Rattle.std.specs.Prelude.{◌≡◌, ℕ, ◌+◌, List, length, drop, Result, Ok, Err}
use Rattle.mt_defs.specs.declared.frame.TheConstants.{HEADER_BYTES}
use Rattle.mt_defs.specs.Frames.{Block, IsFileOf}
use Rattle.mt_frame.specs.declared.fault.FrameWhy.{FrameWhy}
use Rattle.mt_frame.specs.declared.fault.FrameError.{FrameError}
use Rattle.mt_frame.specs.declared.fault.FrameError.TheVariants as error
use Rattle.mt_frame.specs.declared.frames.Frames.{Frames}
use Rattle.mt_types.specs.Steps.{◌>>=◌}
use Rattle.mt_frame.specs.FrameReading.{layout}

-- a frame with so long a payload stands at the start of the bytes
abbrev pub GivesPayload : List ℕ → Result ℕ FrameWhy → Result (Block × List ℕ) FrameWhy → Type 0
GivesPayload bytes (Ok payload) reading = (block : Block) × (payload ≡ length block.payload) × (reading ≡ Ok (block, drop (HEADER_BYTES + payload) bytes))
GivesPayload bytes (Err why) reading = reading ≡ Err why

-- a fault is the reading's, out of memory aside
abbrev pub FrameFailsAs : FrameError → Result (List Block) (ℕ × FrameWhy) → Type 0
FrameFailsAs (error.At offset why) reading = reading ≡ Err (offset, why)
FrameFailsAs error.NoMemory reading = Unit {0}

-- the frames are those that the file is read as
abbrev pub GivesFrames : Result Frames FrameError → Result (List Block) (ℕ × FrameWhy) → Type 0
GivesFrames (Ok frames) reading = (reading >>= λ blocks. Ok (layout blocks)) ≡ Ok frames.list
GivesFrames (Err e) reading = FrameFailsAs e reading

-- the file is frames that lie as these do
abbrev pub AreFramesOf : Frames → List ℕ → Type 0
AreFramesOf frames file = (blocks : List Block) × IsFileOf blocks file × (frames.list ≡ layout blocks) × (frames.end ≡ length file)
