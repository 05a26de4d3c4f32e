-- What the reading of a payload between two marks shows, takes and keeps.
use Rattle.std.specs.Prelude.{◌≡◌, ◌≤◌, ℕ, ◌+◌, List, ◌∷◌, ◌++◌, take, drop, Result}
use Rattle.mt_shelf.specs.State.{State}
use Rattle.mt_defs.specs.declared.mark.Mark.{Mark}
use Rattle.mt_defs.specs.Frames.{Block, IsFileOf, payload_of}
use Rattle.mt_stream.specs.Touched.{MarkRange, touched_bytes, MarksBlocks, AreInOrder}
use Rattle.mt_stream.specs.Held.{HoldsOneOf, IsBehind, IsOutside}
use Rattle.mt_stream.specs.declared.stream.FrameStream.{FrameStream}
use Rattle.mt_stream.specs.declared.error.StreamError.{StreamError}

-- what was added is the payload between the marks
abbrev pub Shows : Mark → Mark → List ℕ → List ℕ → List ℕ → Type 0
Shows begins ends bytes old new =
    (blocks : List Block) (first last : ℕ) → IsFileOf blocks bytes → MarksBlocks blocks begins first → MarksBlocks blocks ends last → new ≡ old ++ drop first (take last (payload_of blocks))

-- what was taken, with what reading any other payloads from here on takes, is at most what reading this one and them took before
abbrev pub PaysOk : Mark → Mark → List ℕ → FrameStream → FrameStream → State → State → Type 0
PaysOk begins ends bytes before now old new =
    (blocks : List Block) (first : ℕ) (ranges : List MarkRange) → IsFileOf blocks bytes → MarksBlocks blocks begins first
    → new.taken + touched_bytes now.end 0 blocks ranges ≤ old.taken + touched_bytes before.end 0 blocks (record { begins = begins; ends = ends } ∷ ranges)

-- what was taken is at most what reading this payload and any others takes
abbrev pub Pays : Mark → Mark → List ℕ → FrameStream → State → State → Type 0
Pays begins ends bytes before old new =
    (blocks : List Block) (first : ℕ) (ranges : List MarkRange) → IsFileOf blocks bytes → MarksBlocks blocks begins first
    → new.taken ≤ old.taken + touched_bytes before.end 0 blocks (record { begins = begins; ends = ends } ∷ ranges)

-- from a mark of a file's frames on, what is held begins where one of them does
abbrev pub StaysOnFrames : Mark → List ℕ → FrameStream → FrameStream → Type 0
StaysOnFrames begins bytes before now =
    (blocks : List Block) (first : ℕ) → IsFileOf blocks bytes → MarksBlocks blocks begins first → HoldsOneOf before blocks → HoldsOneOf now blocks

-- between good marks, neither of which lies before what is held, the file has no fault
abbrev pub IsGood : Mark → Mark → List ℕ → FrameStream → Result (Unit {0}) StreamError → Type 0
IsGood begins ends bytes before result =
    (blocks : List Block) (first last : ℕ) → IsFileOf blocks bytes → AreInOrder blocks begins ends first last → HoldsOneOf before blocks → IsBehind before begins.offset → IsOutside result
