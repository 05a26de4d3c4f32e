-- Where frames lie end to end, their offsets rise, and a frame's offset and index give its position.
use Rattle.std.proofs.Common.{◌≡◌, ℕ, zero, suc, ◌+◌, ◌-◌, ◌*◌, ◌<◌, ◌≤◌, Bool, true, false, ◌&&◌, if◌then◌else◌, List, [], ◌∷◌, length, Option, Some, None, refl, ap, sym, ◌∙◌, arith, inl, inr}
use Rattle.std.specs.Prelude.{nat_lt, nat_le, ◌==◌, slice_get, slice_index}
use Rattle.std.proofs.lemmas.Bool.{cases_Bool, and_parts, leb-true, eqb-true, ltb-true, ltb-false, lt-ltb, le-ltb, ne_eqb, eq-eqb, le-leb, lt-leb, and_from, false_from_ne_true}
use Rattle.mt_defs.specs.declared.frame.Frame.{Frame}
use Rattle.mt_defs.specs.declared.mark.Mark.{Mark}
use Rattle.mt_frame.specs.declared.frames.Frames.{Frames}
use Rattle.mt_frame.specs.EndToEnd.{lie_end_to_end}
use Rattle.mt_marks.specs.Positions.{position_from, position_of, offsets_of, frames_before}

-- what the first of some frames that lie end to end says
pub record Lies (offset : ℕ) (frame : Frame) (frames : List Frame) (end : ℕ) : Type 0 where
  pub first : frame.offset ≡ offset
  pub some : 1 ≤ frame.payload
  pub rest : lie_end_to_end (offset + (25 + frame.payload)) frames end ≡ true

pub lies : (offset : ℕ) (frame : Frame) (frames : List Frame) (end : ℕ) → lie_end_to_end offset (frame ∷ frames) end ≡ true → Lies offset frame frames end
lies offset frame frames end e =
    let p = and_parts _ _ e in
    let q = and_parts _ _ p.1 in
    let r = and_parts _ _ q.0 in
    record { first = eqb-true _ _ p.0; some = leb-true _ _ r.0; rest = q.1 }

-- no frame begins before the first, nor after the end
pub from_first : (offset : ℕ) (frames : List Frame) (end k : ℕ) → lie_end_to_end offset frames end ≡ true → k < length frames → offset ≤ slice_index (offsets_of frames) k
from_first offset [] end k e under = absurd (omega arith)
from_first offset (f ∷ fs) end zero e under = omega (arith, (lies offset f fs end e).first)
from_first offset (f ∷ fs) end (suc k) e under =
    let more = from_first (offset + (25 + f.payload)) fs end k (lies offset f fs end e).rest (omega arith) in omega (arith, more)

pub to_end : (offset : ℕ) (frames : List Frame) (end : ℕ) → lie_end_to_end offset frames end ≡ true → offset + 25 * length frames ≤ end
to_end offset [] end e = omega (arith, eqb-true _ _ e)
to_end offset (f ∷ fs) end e = let more = to_end (offset + (25 + f.payload)) fs end (lies offset f fs end e).rest in omega (arith, more)

-- offsets rise
pub offsets_rise : (offset : ℕ) (frames : List Frame) (end j k : ℕ) → lie_end_to_end offset frames end ≡ true → j ≤ k → k < length frames → slice_index (offsets_of frames) j ≤ slice_index (offsets_of frames) k
offsets_rise offset [] end j k e le under = absurd (omega arith)
offsets_rise offset (f ∷ fs) end zero zero e le under = omega arith
offsets_rise offset (f ∷ fs) end zero (suc k) e le under =
    let l = lies offset f fs end e in
    let more = from_first (offset + (25 + f.payload)) fs end k l.rest (omega arith) in omega (arith, more, l.first)
offsets_rise offset (f ∷ fs) end (suc j) zero e le under = absurd (omega arith)
offsets_rise offset (f ∷ fs) end (suc j) (suc k) e le under = offsets_rise (offset + (25 + f.payload)) fs end j k (lies offset f fs end e).rest (omega arith) (omega arith)

-- ---- the search by halves

before_none : (offset : ℕ) → frames_before offset [] ≡ 0
unfolding frames_before
before_none offset = refl

before_next : (offset : ℕ) (f : Frame) (fs : List Frame) → frames_before offset (f ∷ fs) ≡ (if nat_lt f.offset offset then suc (frames_before offset fs) else 0)
unfolding frames_before
before_next offset f fs = refl

-- frames below an index begin before the offset, and no others
pub index_is : (offset : ℕ) (frames : List Frame) (index : ℕ) → index ≤ length frames → ((k : ℕ) → k < index → slice_index (offsets_of frames) k < offset)
    → ((k : ℕ) → index ≤ k → k < length frames → offset ≤ slice_index (offsets_of frames) k) → index ≡ frames_before offset frames
index_is offset [] index within below above = omega (arith, before_none offset)
index_is offset (f ∷ fs) zero within below above =
    sym (before_next offset f fs ∙ ap (λ (b : Bool). if b then suc (frames_before offset fs) else 0) (le-ltb f.offset offset (above 0 (omega arith) (omega arith))))
index_is offset (f ∷ fs) (suc index) within below above =
    ap (λ (n : ℕ). suc n) (index_is offset fs index (omega arith) (λ k h. below (suc k) (omega arith)) (λ k h u. above (suc k) (omega arith) (omega arith)))
    ∙ sym (before_next offset f fs ∙ ap (λ (b : Bool). if b then suc (frames_before offset fs) else 0) (lt-ltb f.offset offset (below 0 (omega arith))))

-- between two indices the search goes on
pub record IsBetween (offset : ℕ) (frames : List Frame) (low high : ℕ) : Type 0 where
  pub ordered : low ≤ high
  pub within : high ≤ length frames
  pub below : (k : ℕ) → k < low → slice_index (offsets_of frames) k < offset
  pub above : (k : ℕ) → high ≤ k → k < length frames → offset ≤ slice_index (offsets_of frames) k

pub starts_between : (offset : ℕ) (frames : List Frame) → IsBetween offset frames 0 (length frames)
starts_between offset frames = record { ordered = omega arith; within = omega arith; below = λ k h. absurd (omega arith); above = λ k h u. absurd (omega arith) }

pub goes_up : (offset : ℕ) (frames : List Frame) (end low high middle : ℕ) → lie_end_to_end 0 frames end ≡ true → low ≤ middle → middle < high → slice_index (offsets_of frames) middle < offset
    → IsBetween offset frames low high → IsBetween offset frames (middle + 1) high
goes_up offset frames end low high middle e from to less had = record {
  ordered = omega arith;
  within = had.within;
  below = λ k h. let rise = offsets_rise 0 frames end k middle e (omega arith) (omega (arith, had.within)) in omega (arith, rise, less);
  above = had.above;
}

pub goes_down : (offset : ℕ) (frames : List Frame) (end low high middle : ℕ) → lie_end_to_end 0 frames end ≡ true → low ≤ middle → middle < high → offset ≤ slice_index (offsets_of frames) middle
    → IsBetween offset frames low high → IsBetween offset frames low middle
goes_down offset frames end low high middle e from to less had = record {
  ordered = from;
  within = omega (arith, had.within);
  below = had.below;
  above = λ k h u. let rise = offsets_rise 0 frames end middle k e h u in omega (arith, rise, less);
}

-- ---- the position

position_none : (before end : ℕ) (m : Mark) → position_from before end [] m ≡ (if (m.offset == end) && (m.inner == 0) then Some before else None)
unfolding position_from
position_none before end m = refl

position_next : (before end : ℕ) (f : Frame) (fs : List Frame) (m : Mark) → position_from before end (f ∷ fs) m
    ≡ (if m.offset == f.offset then (if nat_le m.inner f.payload then Some (before + m.inner) else None) else position_from (before + f.payload) end fs m)
unfolding position_from
position_next before end f fs m = refl

passes : (before end : ℕ) (f : Frame) (fs : List Frame) (m : Mark) → (m.offset ≡ f.offset → ⊥) → position_from before end (f ∷ fs) m ≡ position_from (before + f.payload) end fs m
passes before end f fs m other =
    position_next before end f fs m
    ∙ ap (λ (b : Bool). if b then (if nat_le m.inner f.payload then Some (before + m.inner) else None) else position_from (before + f.payload) end fs m) (ne_eqb m.offset f.offset other)

not_none : (x : Frame) → (let o : Option Frame = Some x in o) ≡ None → ⊥
not_none x e = cc

some_frame : (x y : Frame) → (let o : Option Frame = Some x in o) ≡ Some y → x ≡ y
some_frame x y e = cc

-- a frame begins at the mark's offset
pub record IsAtFrame (offset before end : ℕ) (frames : List Frame) (m : Mark) (f : Frame) : Type 0 where
  pub room : offset + 25 * frames_before m.offset frames ≤ m.offset
  pub inside : m.offset + (25 + f.payload) ≤ end
  pub is : position_from before end frames m ≡ (if nat_le m.inner f.payload then Some (before + (m.offset - (offset + 25 * frames_before m.offset frames)) + m.inner) else None)

pub at_frame : (offset before end : ℕ) (frames : List Frame) (m : Mark) (f : Frame) → lie_end_to_end offset frames end ≡ true → slice_get frames (frames_before m.offset frames) ≡ Some f → f.offset ≡ m.offset
    → IsAtFrame offset before end frames m f
at_frame offset before end [] m f e got same = absurd cc
at_frame offset before end (g ∷ gs) m f e got same =
    elim (cases_Bool (nat_lt g.offset m.offset)) [
      | inl less ↦ later less (λ got. at_frame (offset + (25 + g.payload)) (before + g.payload) end gs m f (lies offset g gs end e).rest got same)
      | inr not_less ↦ here not_less
    ]
  where
    l : Lies offset g gs end
    l = lies offset g gs end e

    later : nat_lt g.offset m.offset ≡ true → (slice_get gs (frames_before m.offset gs) ≡ Some f → IsAtFrame (offset + (25 + g.payload)) (before + g.payload) end gs m f) → IsAtFrame offset before end (g ∷ gs) m f
    later less go =
        let count : frames_before m.offset (g ∷ gs) ≡ suc (frames_before m.offset gs) = before_next m.offset g gs ∙ ap (λ (b : Bool). if b then suc (frames_before m.offset gs) else 0) less in
        let under = ltb-true g.offset m.offset less in
        let more = go (sym (ap (λ (n : ℕ). slice_get (g ∷ gs) n) count) ∙ got) in
        record {
          room = omega (arith, count, more.room);
          inside = more.inside;
          is = passes before end g gs m (λ equal. omega (arith, equal, under)) ∙ more.is
              ∙ ap (λ (n : ℕ). if nat_le m.inner f.payload then Some (n + m.inner) else None) (omega (arith, count, more.room, l.first));
        }

    here : nat_lt g.offset m.offset ≡ false → IsAtFrame offset before end (g ∷ gs) m f
    here not_less =
        let count : frames_before m.offset (g ∷ gs) ≡ 0 = before_next m.offset g gs ∙ ap (λ (b : Bool). if b then suc (frames_before m.offset gs) else 0) not_less in
        let first : g ≡ f = some_frame g f (sym (ap (λ (n : ℕ). slice_get (g ∷ gs) n) count) ∙ got) in
        let at : m.offset ≡ g.offset = sym same ∙ sym (ap (λ (h : Frame). h.offset) first) in
        let last = to_end (offset + (25 + g.payload)) gs end l.rest in
        let payload : g.payload ≡ f.payload = ap (λ (h : Frame). h.payload) first in
        record {
          room = omega (arith, count, at, l.first);
          inside = omega (arith, last, at, l.first, payload);
          is = position_next before end g gs m
              ∙ ap (λ (b : Bool). if b then (if nat_le m.inner g.payload then Some (before + m.inner) else None) else position_from (before + g.payload) end gs m) (eq-eqb m.offset g.offset at)
              ∙ ap (λ (n : ℕ). if nat_le m.inner n then Some (before + m.inner) else None) payload
              ∙ ap (λ (n : ℕ). if nat_le m.inner f.payload then Some (n + m.inner) else None) (omega (arith, count, at, l.first));
        }

-- no frame begins at the mark's offset where all begin after it
none_after : (offset before end : ℕ) (frames : List Frame) (m : Mark) → lie_end_to_end offset frames end ≡ true → m.offset < offset → position_from before end frames m ≡ None
none_after offset before end [] m e under =
    position_none before end m
    ∙ ap (λ (b : Bool). if b && (m.inner == 0) then Some before else None) (ne_eqb m.offset end (λ same. omega (arith, same, eqb-true offset end e, under)))
none_after offset before end (g ∷ gs) m e under =
    let l = lies offset g gs end e in
    passes before end g gs m (λ same. omega (arith, same, l.first, under)) ∙ none_after (offset + (25 + g.payload)) (before + g.payload) end gs m l.rest (omega arith)

-- the frame at the index begins after the mark's offset
pub no_frame : (offset before end : ℕ) (frames : List Frame) (m : Mark) (f : Frame) → lie_end_to_end offset frames end ≡ true → slice_get frames (frames_before m.offset frames) ≡ Some f → (f.offset ≡ m.offset → ⊥)
    → position_from before end frames m ≡ None
no_frame offset before end [] m f e got other = absurd cc
no_frame offset before end (g ∷ gs) m f e got other =
    elim (cases_Bool (nat_lt g.offset m.offset)) [
      | inl less ↦ later less (λ got. no_frame (offset + (25 + g.payload)) (before + g.payload) end gs m f (lies offset g gs end e).rest got other)
      | inr not_less ↦ here not_less
    ]
  where
    l : Lies offset g gs end
    l = lies offset g gs end e

    later : nat_lt g.offset m.offset ≡ true → (slice_get gs (frames_before m.offset gs) ≡ Some f → position_from (before + g.payload) end gs m ≡ None) → position_from before end (g ∷ gs) m ≡ None
    later less go =
        let count : frames_before m.offset (g ∷ gs) ≡ suc (frames_before m.offset gs) = before_next m.offset g gs ∙ ap (λ (b : Bool). if b then suc (frames_before m.offset gs) else 0) less in
        let under = ltb-true g.offset m.offset less in
        passes before end g gs m (λ equal. omega (arith, equal, under))
        ∙ go (sym (ap (λ (n : ℕ). slice_get (g ∷ gs) n) count) ∙ got)

    here : nat_lt g.offset m.offset ≡ false → position_from before end (g ∷ gs) m ≡ None
    here not_less =
        let count : frames_before m.offset (g ∷ gs) ≡ 0 = before_next m.offset g gs ∙ ap (λ (b : Bool). if b then suc (frames_before m.offset gs) else 0) not_less in
        let first : g ≡ f = some_frame g f (sym (ap (λ (n : ℕ). slice_get (g ∷ gs) n) count) ∙ got) in
        let apart : m.offset ≡ g.offset → ⊥ = λ same. other (sym (ap (λ (h : Frame). h.offset) first) ∙ sym same) in
        let over = ltb-false g.offset m.offset not_less in
        passes before end g gs m apart
        ∙ none_after (offset + (25 + g.payload)) (before + g.payload) end gs m l.rest (omega (arith, over, l.first))

-- no frame begins at the mark's offset or after it
pub record IsPast (offset before end : ℕ) (frames : List Frame) (m : Mark) : Type 0 where
  pub room : offset + 25 * frames_before m.offset frames ≤ end
  pub is : position_from before end frames m ≡ (if (m.offset == end) && (m.inner == 0) then Some (before + (end - (offset + 25 * frames_before m.offset frames))) else None)

pub past_frames : (offset before end : ℕ) (frames : List Frame) (m : Mark) → lie_end_to_end offset frames end ≡ true → slice_get frames (frames_before m.offset frames) ≡ None → IsPast offset before end frames m
past_frames offset before end [] m e got =
    let same = eqb-true offset end e in
    let count = before_none m.offset in
    record {
      room = omega (arith, same, count);
      is = position_none before end m ∙ ap (λ (n : ℕ). if (m.offset == end) && (m.inner == 0) then Some n else None) (omega (arith, same, count));
    }
past_frames offset before end (g ∷ gs) m e got =
    elim (cases_Bool (nat_lt g.offset m.offset)) [
      | inl less ↦ later less (λ got. past_frames (offset + (25 + g.payload)) (before + g.payload) end gs m (lies offset g gs end e).rest got)
      | inr not_less ↦ here not_less
    ]
  where
    l : Lies offset g gs end
    l = lies offset g gs end e

    later : nat_lt g.offset m.offset ≡ true → (slice_get gs (frames_before m.offset gs) ≡ None → IsPast (offset + (25 + g.payload)) (before + g.payload) end gs m) → IsPast offset before end (g ∷ gs) m
    later less go =
        let count : frames_before m.offset (g ∷ gs) ≡ suc (frames_before m.offset gs) = before_next m.offset g gs ∙ ap (λ (b : Bool). if b then suc (frames_before m.offset gs) else 0) less in
        let under = ltb-true g.offset m.offset less in
        let more = go (sym (ap (λ (n : ℕ). slice_get (g ∷ gs) n) count) ∙ got) in
        record {
          room = omega (arith, count, more.room);
          is = passes before end g gs m (λ equal. omega (arith, equal, under)) ∙ more.is
              ∙ ap (λ (n : ℕ). if (m.offset == end) && (m.inner == 0) then Some n else None) (omega (arith, count, more.room));
        }

    here : nat_lt g.offset m.offset ≡ false → IsPast offset before end (g ∷ gs) m
    here not_less =
        let count : frames_before m.offset (g ∷ gs) ≡ 0 = before_next m.offset g gs ∙ ap (λ (b : Bool). if b then suc (frames_before m.offset gs) else 0) not_less in
        absurd (not_none g (sym (ap (λ (n : ℕ). slice_get (g ∷ gs) n) count) ∙ got))

-- ---- what the code finds

pub room_at_frame : (frames : Frames) (m : Mark) (index : ℕ) (f : Frame) → index ≡ frames_before m.offset frames.list → slice_get frames.list index ≡ Some f → f.offset ≡ m.offset
    → (25 * index ≤ m.offset) × (m.offset + (25 + f.payload) ≤ frames.end)
room_at_frame frames m index f count got same =
    let at = at_frame 0 0 frames.end frames.list m f frames.end_to_end (ap (λ (n : ℕ). slice_get frames.list n) (sym count) ∙ got) same in
    (omega (arith, at.room, count), at.inside)

pub found_in_frame : (frames : Frames) (m : Mark) (index : ℕ) (f : Frame) → index ≡ frames_before m.offset frames.list → slice_get frames.list index ≡ Some f → f.offset ≡ m.offset → m.inner ≤ f.payload
    → Some (m.offset - 25 * index + m.inner) ≡ position_of frames m
found_in_frame frames m index f count got same within =
    let at = at_frame 0 0 frames.end frames.list m f frames.end_to_end (ap (λ (n : ℕ). slice_get frames.list n) (sym count) ∙ got) same in
    sym (at.is ∙ ap (λ (b : Bool). if b then Some (0 + (m.offset - (0 + 25 * frames_before m.offset frames.list)) + m.inner) else None) (le-leb m.inner f.payload within)
    ∙ ap (λ (n : ℕ). Some (n + m.inner)) (omega (arith, count)))

pub found_past_payload : (frames : Frames) (m : Mark) (index : ℕ) (f : Frame) → index ≡ frames_before m.offset frames.list → slice_get frames.list index ≡ Some f → f.offset ≡ m.offset → f.payload < m.inner
    → None ≡ position_of frames m
found_past_payload frames m index f count got same past =
    let at = at_frame 0 0 frames.end frames.list m f frames.end_to_end (ap (λ (n : ℕ). slice_get frames.list n) (sym count) ∙ got) same in
    sym (at.is ∙ ap (λ (b : Bool). if b then Some (0 + (m.offset - (0 + 25 * frames_before m.offset frames.list)) + m.inner) else None) (lt-leb m.inner f.payload past))

pub found_between : (frames : Frames) (m : Mark) (index : ℕ) (f : Frame) → index ≡ frames_before m.offset frames.list → slice_get frames.list index ≡ Some f → (f.offset ≡ m.offset → ⊥) → None ≡ position_of frames m
found_between frames m index f count got other = sym (no_frame 0 0 frames.end frames.list m f frames.end_to_end (ap (λ (n : ℕ). slice_get frames.list n) (sym count) ∙ got) other)

pub room_at_end : (frames : Frames) (m : Mark) (index : ℕ) → index ≡ frames_before m.offset frames.list → slice_get frames.list index ≡ None → m.offset ≡ frames.end → 25 * index ≤ m.offset
room_at_end frames m index count got same =
    let past = past_frames 0 0 frames.end frames.list m frames.end_to_end (ap (λ (n : ℕ). slice_get frames.list n) (sym count) ∙ got) in
    omega (arith, past.room, count, same)

pub found_at_end : (frames : Frames) (m : Mark) (index : ℕ) → index ≡ frames_before m.offset frames.list → slice_get frames.list index ≡ None → m.offset ≡ frames.end → m.inner ≡ 0
    → Some (m.offset - 25 * index) ≡ position_of frames m
found_at_end frames m index count got same start =
    let past = past_frames 0 0 frames.end frames.list m frames.end_to_end (ap (λ (n : ℕ). slice_get frames.list n) (sym count) ∙ got) in
    sym (past.is ∙ ap (λ (b : Bool). if b then Some (0 + (frames.end - (0 + 25 * frames_before m.offset frames.list))) else None) (and_from _ _ (eq-eqb m.offset frames.end same) (eq-eqb m.inner 0 start))
    ∙ ap (λ (n : ℕ). Some n) (omega (arith, count, same)))

pub found_past_end : (frames : Frames) (m : Mark) (index : ℕ) → index ≡ frames_before m.offset frames.list → slice_get frames.list index ≡ None → ((m.offset ≡ frames.end) → m.inner ≡ 0 → ⊥) → None ≡ position_of frames m
found_past_end frames m index count got other =
    let past = past_frames 0 0 frames.end frames.list m frames.end_to_end (ap (λ (n : ℕ). slice_get frames.list n) (sym count) ∙ got) in
    sym (past.is ∙ ap (λ (b : Bool). if b then Some (0 + (frames.end - (0 + 25 * frames_before m.offset frames.list))) else None)
    (false_from_ne_true _ (λ e. let p = and_parts (m.offset == frames.end) (m.inner == 0) e in other (eqb-true m.offset frames.end p.0) (eqb-true m.inner 0 p.1))))
