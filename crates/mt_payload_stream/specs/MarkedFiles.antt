-- A data file that is read payload by payload, by the marks of its marks file: docs/FORMAT.md, "Marks".
use Rattle.std.specs.Prelude.{◌≡◌, ◌<◌, ◌+◌, ℕ, List, [], ◌++◌, length, None, Result, Ok, slice_index_or}
use Rattle.mt_defs.specs.Lists.{AreBytes}
use Rattle.mt_defs.specs.declared.mark.Mark.{Mark}
use Rattle.mt_defs.specs.Frames.{Block, IsFileOf}
use Rattle.mt_frame.specs.declared.frames.Frames.{Frames}
use Rattle.mt_stream.specs.declared.error.StreamError.{StreamError}
use Rattle.mt_stream.specs.Held.{HoldsOneOf, IsBehind, IsOutside}
use Rattle.mt_marks.specs.declared.marks.Marks.{Marks}
use Rattle.mt_marks.specs.Entries.{entries_of}
use Rattle.mt_marks.specs.MarkReading.{rules_reading}
use Rattle.mt_granules.specs.PayloadReading.{frames_in, payloads_of}
use Rattle.mt_payload_stream.specs.declared.payload_stream.PayloadStream.{PayloadStream}

-- the mark of an index, in the order of the file
abbrev pub indexed_mark : Marks → ℕ → Mark
indexed_mark marks index = slice_index_or marks.places index (record { offset = 0; inner = 0 })

-- the file has these frames, and the marks keep the rules there
pub record IsMarkedBy (file : List ℕ) (frames : Frames) (marks : Marks) : Type 0 where
  pub bytes : AreBytes file
  pub framed : frames_in file ≡ Ok frames
  pub ruled : rules_reading frames 0 0 None (entries_of marks) ≡ Ok tt

-- where the marks keep the rules, what was added is the payload of the mark of this index
abbrev pub AppendsPayload : Marks → ℕ → List ℕ → List ℕ → List ℕ → Type 0
AppendsPayload marks index old new file =
    (frames : Frames) → IsMarkedBy file frames marks → new ≡ old ++ slice_index_or (payloads_of file frames marks).payloads index []

-- what is held begins where a frame of the file does, and not after the mark of this index
pub record IsReady (stream : PayloadStream) (index : ℕ) (file : List ℕ) : Type 0 where
  pub on_frames : (blocks : List Block) → IsFileOf blocks file → HoldsOneOf stream.file blocks
  pub behind : IsBehind stream.file (indexed_mark stream.marks index).offset

-- where the marks keep the rules and what is held is not after the mark of this index, the file has no fault
abbrev pub FindsNoFault : PayloadStream → ℕ → Result (Unit {0}) StreamError → List ℕ → Type 0
FindsNoFault before index result file = (frames : Frames) → IsMarkedBy file frames before.marks → IsReady before index file → IsOutside result

-- and each later payload may be read
abbrev pub StaysReady : PayloadStream → PayloadStream → ℕ → List ℕ → Type 0
StaysReady before now index file =
    (frames : Frames) → IsMarkedBy file frames before.marks → IsReady before index file → (later : ℕ) → index < later → later < length before.marks.places → IsReady now later file
