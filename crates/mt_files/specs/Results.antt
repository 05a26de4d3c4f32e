-- What the readers of a folder's files answer.
pub use Rattle.mt_fault.specs.Results.{Gives, FailsAs}
pub use Rattle.mt_fault.specs.Results.{IsFault}
use Rattle.std.specs.Prelude.{◌≡◌, ℕ, List, length, Result, Ok, Err}
use denote.Ref.{Bor}
use Rattle.mt_fault.specs.declared.fault.Fault.{Fault}
use Rattle.mt_fault.specs.declared.error.FileError.{FileError}
use Rattle.mt_fault.specs.declared.error.FileError.TheVariants.{NoMemory}
use Rattle.mt_defs.specs.Frames.{Block, IsFileOf}
use Rattle.mt_frame.specs.declared.frames.Frames.{Frames}
use Rattle.mt_frame.specs.declared.fault.FrameError.{FrameError}
use Rattle.mt_frame.specs.declared.fault.FrameError.TheVariants as frame
use Rattle.mt_frame.specs.FrameReading.{layout}
use Rattle.mt_files.specs.declared.skip_entries.SkipEntries.{SkipEntries}
use Rattle.mt_granules.specs.FileFaults.{frame_fault}
use Rattle.mt_files.specs.SkipMarks.{pieces_at}

-- what was returned refers to what was read
abbrev pub GivesBytes : Result (Bor (List ℕ)) FileError → Result (List ℕ) Fault → Type 0
GivesBytes (Ok bytes) reading = reading ≡ Ok bytes.now
GivesBytes (Err e) reading = FailsAs e reading

-- the frames of a file are those that it is read as
abbrev pub GivesFramesOf : List ℕ → Result Frames FileError → Result (List Block) Fault → Type 0
GivesFramesOf file (Ok frames) reading =
    (blocks : List Block) × (reading ≡ Ok blocks) × IsFileOf blocks file × (frames.list ≡ layout blocks) × (frames.end ≡ length file)
GivesFramesOf file (Err e) reading = FailsAs e reading

-- the entries are those that the files are read as
abbrev pub GivesEntries : Result SkipEntries FileError → Result (List (List ℕ)) Fault → Type 0
GivesEntries (Ok entries) reading = reading ≡ Ok (pieces_at entries.payload entries.positions)
GivesEntries (Err e) reading = FailsAs e reading

-- an error of frames, as one of a file
abbrev pub IsFrameError : List ℕ → FrameError → FileError → Type 0
IsFrameError file (frame.At offset why) error = IsFault (frame_fault file (offset, why)) error
IsFrameError file frame.NoMemory error = error ≡ NoMemory
