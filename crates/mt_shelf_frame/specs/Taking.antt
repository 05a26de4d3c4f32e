-- What reading one frame of a file on a shelf takes and gives.
use Rattle.std.specs.Prelude.{◌≡◌, ◌≤◌, ℕ, ◌+◌, List, length, Option, IfSome, IsSomeAnd, Result, Ok, Err}
use Rattle.std.specs.FinMap.{get}
use Rattle.mt_shelf.specs.Causes.{Rose}
use Rattle.mt_shelf.specs.Files.{Files}
use Rattle.mt_defs.specs.declared.frame.TheConstants.{HEADER_BYTES}
use Rattle.mt_defs.specs.Frames.{Block}
use Rattle.mt_frame.specs.declared.fault.FrameWhy.{FrameWhy}
use Rattle.mt_shelf_frame.specs.declared.error.ReadFrameError.{ReadFrameError}
use Rattle.mt_shelf_frame.specs.declared.error.ReadFrameError.TheVariants as error

-- where the files are known, the path is a file's, and this holds of its bytes
abbrev pub KnownBytes : Option Files → List ℕ → (List ℕ → Type 0) → Type 0
KnownBytes files path P = IfSome files (λ known. IsSomeAnd (get known path) P)

-- the bytes of the frame that stands there, or of a header where none does
abbrev pub frame_len : Result (Block × List ℕ) FrameWhy → ℕ
frame_len (Ok first) = HEADER_BYTES + length first.0.payload
frame_len (Err why) = HEADER_BYTES

-- a frame stands at an offset, this is its payload, and it ends here
pub record IsFrameAt (offset end : ℕ) (payload : List ℕ) (reading : Result (Block × List ℕ) FrameWhy) : Type 0 where
  pub block : Block
  pub rest : List ℕ
  pub stands : reading ≡ Ok (block, rest)
  pub payload_is : payload ≡ block.payload
  pub ends : end ≡ offset + (HEADER_BYTES + length payload)

-- an error names the offset and the condition that the bytes break; failures of the outside aside
abbrev pub FrameFails : ℕ → ReadFrameError → Result (Block × List ℕ) FrameWhy → Type 0
FrameFails offset (error.At at why) reading = (at ≡ offset) × (reading ≡ Err why)
FrameFails offset error.Shelf reading = Unit {0}
FrameFails offset error.NoMemory reading = Unit {0}

-- the call gives the frame at an offset, or says why none stands there; failures of the outside aside
abbrev pub GivesFrame : ℕ → Result ℕ ReadFrameError → List ℕ → Result (Block × List ℕ) FrameWhy → Type 0
GivesFrame offset (Ok end) payload reading = IsFrameAt offset end payload reading
GivesFrame offset (Err e) payload reading = FrameFails offset e reading

-- the frame ends after its header and its payload, inside the file
pub record IsAfter (offset size end : ℕ) (payload : List ℕ) : Type 0 where
  pub ends : end ≡ offset + (HEADER_BYTES + length payload)
  pub not_empty : 1 ≤ length payload
  pub inside : end ≤ size

-- the count of faults rose where the shelf failed, and else stayed
abbrev pub FaultOf : ℕ → ℕ → ReadFrameError → Type 0
FaultOf before now (error.At offset why) = now ≡ before
FaultOf before now error.Shelf = Rose before now
FaultOf before now error.NoMemory = now ≡ before

-- the same of a call that may succeed
abbrev pub FailsBy : {T : Type 0} → ℕ → ℕ → Result T ReadFrameError → Type 0
FailsBy before now (Ok x) = now ≡ before
FailsBy before now (Err e) = FaultOf before now e

-- the shelf's count of faults rises where the shelf failed, and nowhere else
pub record HasFrameCause {T : Type 0} (before now : ℕ) (result : Result T ReadFrameError) : Type 0 where
  pub later : before ≤ now
  pub fails : FailsBy before now result
