-- What a stream holds, and how the holding of a frame or the taking of its bytes fails.
use Rattle.std.specs.Prelude.{◌≡◌, ◌≤◌, ◌<◌, ℕ, ◌⊎◌, List, drop, Result, Ok, Err}
use Rattle.mt_shelf.specs.Causes.{Rose}
use Rattle.mt_shelf.specs.State.{State}
use Rattle.mt_defs.specs.Frames.{Block}
use Rattle.mt_frame.specs.declared.fault.FrameWhy.{FrameWhy}
use Rattle.mt_frame.specs.FrameReading.{frame_reading}
use Rattle.mt_shelf_frame.specs.Taking.{IsFrameAt}
use Rattle.mt_stream.specs.Touched.{IsFrameStart}
use Rattle.mt_stream.specs.declared.stream.FrameStream.{FrameStream}
use Rattle.mt_stream.specs.declared.error.StreamError.{StreamError}
use Rattle.mt_stream.specs.declared.error.StreamError.TheVariants as error

-- what is held is the frame there, in these bytes
abbrev pub HoldsItsFrame : FrameStream → List ℕ → Type 0
HoldsItsFrame stream bytes = 0 < stream.end → IsFrameAt stream.start stream.end stream.held (frame_reading (drop stream.start bytes))

-- what is held begins where one of these frames does
abbrev pub HoldsOneOf : FrameStream → List Block → Type 0
HoldsOneOf stream blocks = 0 < stream.end → IsFrameStart blocks stream.start

-- what is held begins at this offset or before it
abbrev pub IsBehind : FrameStream → ℕ → Type 0
IsBehind stream offset = 0 < stream.end → stream.start ≤ offset

-- nothing was read
pub record IsUnread (before now : FrameStream) (old new : State) : Type 0 where
  pub same : now ≡ before
  pub state : new ≡ old

-- the count of faults rose where the shelf failed, and else stayed
abbrev pub StreamFaultOf : ℕ → ℕ → StreamError → Type 0
StreamFaultOf before now (error.At offset why) = now ≡ before
StreamFaultOf before now error.Place = now ≡ before
StreamFaultOf before now error.Shelf = Rose before now
StreamFaultOf before now error.NoMemory = now ≡ before

-- the same of a call that may succeed
abbrev pub StreamFailsBy : ℕ → ℕ → Result (Unit {0}) StreamError → Type 0
StreamFailsBy before now (Ok x) = now ≡ before
StreamFailsBy before now (Err e) = StreamFaultOf before now e

-- the shelf's count of faults rises where the shelf failed, and nowhere else
pub record HasStreamCause (before now : ℕ) (result : Result (Unit {0}) StreamError) : Type 0 where
  pub later : before ≤ now
  pub fails : StreamFailsBy before now result

-- why the bytes between two offsets of a payload of this length weren't appended
abbrev pub AppendFails : ℕ → ℕ → ℕ → Result (Unit {0}) StreamError → Type 0
AppendFails from to len (Ok x) = Unit {0}
AppendFails from to len (Err (error.At offset why)) = ⊥
AppendFails from to len (Err error.Place) = (to < from) ⊎ (len < to)
AppendFails from to len (Err error.Shelf) = ⊥
AppendFails from to len (Err error.NoMemory) = Unit {0}

-- why the frame at an offset isn't held: none stands there, or it is before the one held, or the file ends before it
abbrev pub HoldFails : FrameStream → ℕ → Result (Block × List ℕ) FrameWhy → Result (Unit {0}) StreamError → Type 0
HoldFails before at reading (Ok x) = Unit {0}
HoldFails before at reading (Err (error.At offset why)) = (offset ≡ at) × (reading ≡ Err why)
HoldFails before at reading (Err error.Place) = ((at < before.end) × (at ≡ before.start → ⊥)) ⊎ (before.size ≤ at)
HoldFails before at reading (Err error.Shelf) = Unit {0}
HoldFails before at reading (Err error.NoMemory) = Unit {0}

-- the file has no fault: only the shelf or memory failed
abbrev pub IsOutside : Result (Unit {0}) StreamError → Type 0
IsOutside (Ok x) = Unit {0}
IsOutside (Err (error.At offset why)) = ⊥
IsOutside (Err error.Place) = ⊥
IsOutside (Err error.Shelf) = Unit {0}
IsOutside (Err error.NoMemory) = Unit {0}
