-- From payload to payload of a file whose marks keep the rules no fault is met.
use Rattle.std.proofs.Common.{◌≡◌, ℕ, ◌+◌, ◌<◌, ◌≤◌, List, length, get_or, sym, subst, arith}
use Rattle.std.specs.Prelude.{Result, Ok, Err, OnOk}
use Rattle.mt_defs.specs.Frames.{Block, IsFileOf}
use Rattle.mt_frame.specs.declared.frames.Frames.{Frames}
use Rattle.mt_stream.specs.declared.stream.FrameStream.{FrameStream}
use Rattle.mt_stream.specs.declared.error.StreamError.{StreamError}
use Rattle.mt_stream.specs.Held.{IsBehind}
use Rattle.mt_stream.specs.Reading.{IsGood, StaysOnFrames}
use Rattle.mt_stream.proofs.MarkLemmas.{still_behind}
use Rattle.mt_marks.specs.declared.marks.Marks.{Marks}
use Rattle.mt_marks.specs.Entries.{AreMarks}
use Rattle.mt_granules.specs.PayloadReading.{mark_count, positions_of}
use Rattle.mt_granules.proofs.MarkLemmas.{frames_are, file_is, index_there}
use Rattle.mt_payload_stream.specs.declared.payload_stream.PayloadStream.{PayloadStream}
use Rattle.mt_payload_stream.specs.MarkedFiles.{indexed_mark, IsMarkedBy, IsReady, FindsNoFault, StaysReady}
use Rattle.mt_payload_stream.proofs.MarkedLemmas.{in_order}

-- a stream that holds nothing may read each payload
pub ready_at_first : (stream : PayloadStream) (index : ℕ) (file : List ℕ) → stream.file.end ≡ 0 → IsReady stream index file
ready_at_first stream index file none = record { on_frames = λ blocks is some. absurd (omega (arith, some, none)); behind = λ some. absurd (omega (arith, some, none)) }

pub finds_no_fault : (before : PayloadStream) (index : ℕ) (result : Result (Unit {0}) StreamError) (file : List ℕ) → AreMarks before.marks → index < mark_count before.marks
    → IsGood (indexed_mark before.marks index) (indexed_mark before.marks (index + 1)) file before.file result → FindsNoFault before index result file
finds_no_fault before index result file complete under good frames marked ready =
    let cut = frames_are file frames marked.framed in
    let is = file_is file cut.blocks marked.bytes cut.reads in
    let ps = positions_of frames before.marks in
    good cut.blocks (get_or ps index 0) (get_or ps (index + 1) 0) is
    (in_order file frames before.marks cut.blocks is marked complete index (index + 1) (omega arith) (omega (arith, under, index_there before.marks index complete under))) (ready.on_frames cut.blocks is) ready.behind

pub stays_ready : (before now : PayloadStream) (index : ℕ) (file : List ℕ) → AreMarks before.marks → index < mark_count before.marks → now.marks ≡ before.marks
    → StaysOnFrames (indexed_mark before.marks index) file before.file now.file
    → (IsBehind before.file (indexed_mark before.marks index).offset → IsBehind now.file (indexed_mark before.marks (index + 1)).offset) → StaysReady before now index file
stays_ready before now index file complete under same stays behind frames marked ready later past there =
    let cut = frames_are file frames marked.framed in
    let is = file_is file cut.blocks marked.bytes cut.reads in
    let many = index_there before.marks index complete under in
    let next = in_order file frames before.marks cut.blocks is marked complete (index + 1) later (omega (arith, past)) there in
    record {
      on_frames = λ blocks is.
          let here = in_order file frames before.marks blocks is marked complete index (index + 1) (omega arith) (omega (arith, under, many)) in
          stays blocks (get_or (positions_of frames before.marks) index 0) is here.begins_at (ready.on_frames blocks is);
      behind = subst (λ (marks : Marks). IsBehind now.file (indexed_mark marks later).offset) (sym same)
          (still_behind now.file (indexed_mark before.marks (index + 1)).offset (indexed_mark before.marks later).offset next.offsets (behind ready.behind));
    }

-- two facts of a call that succeeds
pub on_ok_both : {T E : Type 0} (P Q : Type 0) (r : Result T E) → OnOk r P → OnOk r Q → OnOk r (P × Q)
on_ok_both P Q (Ok x) p q = (p, q)
on_ok_both P Q (Err e) p q = tt
