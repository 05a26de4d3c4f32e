-- Where the payload of a mark stands in its data file.
use Rattle.std.proofs.Common.{◌≡◌, ℕ, zero, suc, ◌+◌, ◌-◌, ◌*◌, ◌<◌, ◌≤◌, Bool, true, false, List, [], ◌∷◌, ◌++◌, length, map, take, drop, get_or, refl, ap, sym, ◌∙◌, subst, arith, length-append, Option, Some, None, ◌⊎◌, inl, inr}
use Rattle.std.specs.Prelude.{Result, Ok, unwrap_or}
use Rattle.std.proofs.lemmas.List.{length-take-le, length-drop, drop_at, drop-drop}
use Rattle.std.proofs.lemmas.List.Concat.{flat_map-append}
use Rattle.std.proofs.lemmas.List.Elements.{All-tail}
use Rattle.std.specs.Prelude.{All}
use Rattle.mt_types.specs.Steps.{◌>>=◌}
use Rattle.mt_types.specs.Steps.{ok_or}
use Rattle.mt_types.proofs.StepLemmas.{ok_then, ok_one, then_of}
use Rattle.std.proofs.Math.Bool.{Bool-set}
use Rattle.mt_table.specs.Rows.{Pointwise}
use Rattle.mt_defs.specs.Lists.{AreBytes}
use Rattle.mt_defs.specs.declared.frame.Frame.{Frame}
use Rattle.mt_defs.specs.declared.mark.Mark.{Mark}
use Rattle.mt_defs.specs.Frames.{Block, IsBlock, IsFileOf, file_of, payload_of}
use Rattle.mt_defs.specs.Marks.{MarksPosition, MarksFrame, MarksEnd}
use Rattle.mt_frame.specs.declared.fault.FrameWhy.{FrameWhy}
use Rattle.mt_frame.specs.declared.frames.Frames.{Frames}
use Rattle.mt_frame.specs.EndToEnd.{lie_end_to_end}
use Rattle.mt_frame.specs.FrameReading.{frames_reading, layout}
use Rattle.mt_frame.specs.Results.{AreFramesOf}
use Rattle.mt_frame.proofs.LawLemmas.{one_file, read_exactly}
use Rattle.mt_marks.specs.declared.marks.Marks.{Marks}
use Rattle.mt_marks.specs.Entries.{AreMarks, entries_of}
use Rattle.mt_marks.specs.MarkReading.{rules_reading}
use Rattle.mt_marks.specs.Positions.{position_of}
use Rattle.mt_marks.proofs.DenotedLemmas.{position_denotes}
use Rattle.mt_marks.proofs.RecutLemmas.{marked_within}
use Rattle.mt_marks.proofs.WrittenLemmas.{joined_marks}
use Rattle.mt_granules.specs.PayloadReading.{frames_in, frames_where, mark_count, payload_in, payload_read, payloads_of, pieces, positions_of}
use Rattle.mt_granules.specs.Walking.{HasPayload}
use Rattle.mt_granules.proofs.RuleLemmas.{Climb, Rises, all_entries, climb_all, joined}
use Rattle.mt_granules.proofs.PieceLemmas.{piece_at}

-- ---- the frames

where_is : (list : List Frame) (end : ℕ) (b : Bool) (fill : lie_end_to_end 0 list end ≡ b) (w : ℕ × FrameWhy) (frames : Frames) → ok_or w (frames_where list end b fill) ≡ Ok frames → (frames.list ≡ list) × (frames.end ≡ end)
where_is list end true fill w frames e =
    let same : frames ≡ record { list = list; end = end; end_to_end = fill } = ok_one _ _ e in
    (ap (λ (f : Frames). f.list) same, ap (λ (f : Frames). f.end) same)
where_is list end false fill w frames e = cc

-- the frames of a file, and the blocks that lie there
pub record IsCutBy (file : List ℕ) (frames : Frames) : Type 0 where
  pub blocks : List Block
  pub reads : frames_reading file ≡ Ok blocks
  pub list : frames.list ≡ layout blocks
  pub end : frames.end ≡ length file

pub frames_are : (file : List ℕ) (frames : Frames) → frames_in file ≡ Ok frames → IsCutBy file frames
frames_are file frames e =
    ok_then (frames_reading file) (λ blocks. ok_or (length file, _) (frames_where (layout blocks) (length file) (lie_end_to_end 0 (layout blocks) (length file)) refl)) frames e (λ blocks is e.
    let same = where_is (layout blocks) (length file) (lie_end_to_end 0 (layout blocks) (length file)) refl _ frames e in
    record { blocks = blocks; reads = is; list = same.0; end = same.1 })

-- the frames that are read of a file are those
where_found : (frames : Frames) (list : List Frame) (end : ℕ) (w : ℕ × FrameWhy) → frames.list ≡ list → frames.end ≡ end → (b : Bool) (fill : lie_end_to_end 0 list end ≡ b) → ok_or w (frames_where list end b fill) ≡ Ok frames
where_found frames list end w same_list same_end =
    subst (λ (l : List Frame). (b : Bool) (fill : lie_end_to_end 0 l end ≡ b) → ok_or w (frames_where l end b fill) ≡ Ok frames) same_list
    (subst (λ (n : ℕ). (b : Bool) (fill : lie_end_to_end 0 frames.list n ≡ b) → ok_or w (frames_where frames.list n b fill) ≡ Ok frames) same_end itself)
  where
    itself : (b : Bool) (fill : lie_end_to_end 0 frames.list frames.end ≡ b) → ok_or w (frames_where frames.list frames.end b fill) ≡ Ok frames
    itself true fill = ap (λ (p : lie_end_to_end 0 frames.list frames.end ≡ true). let r : Result Frames (ℕ × FrameWhy) = Ok (record { list = frames.list; end = frames.end; end_to_end = p }) in r) (Bool-set _ _ fill frames.end_to_end)
    itself false fill = let bad : true ≡ false = sym frames.end_to_end ∙ fill in cc

pub frames_found : (file : List ℕ) (frames : Frames) → (frames_reading file >>= λ blocks. Ok (layout blocks)) ≡ Ok frames.list → frames.end ≡ length file → frames_in file ≡ Ok frames
frames_found file frames reads end =
    ok_then (frames_reading file) (λ blocks. Ok (layout blocks)) frames.list reads (λ blocks is e.
    then_of (frames_reading file) blocks (λ blocks. ok_or (length file, _) (frames_where (layout blocks) (length file) (lie_end_to_end 0 (layout blocks) (length file)) refl)) is
    ∙ where_found frames (layout blocks) (length file) _ (ok_one _ _ e) end (lie_end_to_end 0 (layout blocks) (length file)) refl)

pub payload_is : (file : List ℕ) (blocks : List Block) → frames_reading file ≡ Ok blocks → payload_in file ≡ payload_of blocks
payload_is file blocks e = ap payload_read e

pub file_is : (file : List ℕ) (blocks : List Block) → AreBytes file → frames_reading file ≡ Ok blocks → IsFileOf blocks file
file_is file blocks are e = (read_exactly file blocks are).0 e

-- ---- positions

pub positions_are : (frames : Frames) (ms : List Mark) (ns : List ℕ) → Pointwise (λ m n. position_of frames m ≡ Some n) ms ns → map (λ m. unwrap_or (position_of frames m) 0) ms ≡ ns
positions_are frames [] [] p = refl
positions_are frames [] (n ∷ ns) p = absurd p
positions_are frames (m ∷ ms) [] p = absurd p
positions_are frames (m ∷ ms) (n ∷ ns) p =
    ap (λ (o : Option ℕ). unwrap_or o 0 ∷ map (λ m. unwrap_or (position_of frames m) 0) ms) p.0 ∙ ap (λ (l : List ℕ). n ∷ l) (positions_are frames ms ns p.1)

pub length-positions : (frames : Frames) (ms : List Mark) (ns : List ℕ) → Pointwise (λ m n. position_of frames m ≡ Some n) ms ns → length ns ≡ length ms
length-positions frames [] [] p = refl
length-positions frames [] (n ∷ ns) p = absurd p
length-positions frames (m ∷ ms) [] p = absurd p
length-positions frames (m ∷ ms) (n ∷ ns) p = ap suc (length-positions frames ms ns p.1)

denotes_at : (frames : Frames) (ms : List Mark) (ns : List ℕ) (i : ℕ) (d : Mark) → Pointwise (λ m n. position_of frames m ≡ Some n) ms ns → i < length ms → position_of frames (get_or ms i d) ≡ Some (get_or ns i 0)
denotes_at frames [] ns i d p h = absurd (omega arith)
denotes_at frames (m ∷ ms) [] i d p h = absurd p
denotes_at frames (m ∷ ms) (n ∷ ns) zero d p h = p.0
denotes_at frames (m ∷ ms) (n ∷ ns) (suc i) d p h = denotes_at frames ms ns i d p.1 (omega arith)

rises_at : (a top : ℕ) (ns : List ℕ) (i : ℕ) → Rises a ns top → i + 1 < length ns → get_or ns i 0 ≤ get_or ns (i + 1) 0
rises_at a top [] i r h = absurd (omega arith)
rises_at a top (n ∷ []) i r h = absurd (omega arith)
rises_at a top (n ∷ m ∷ ns) zero r h = r.1.0
rises_at a top (n ∷ m ∷ ns) (suc i) r h =
    let more = rises_at n top (m ∷ ns) i r.1 (omega arith) in
    subst (λ (k : ℕ). get_or (m ∷ ns) i 0 ≤ get_or (n ∷ m ∷ ns) k 0) (let z : suc (i + 1) ≡ suc i + 1 = omega arith in z) more

-- the rules give each mark a position
pub record AreClimbing (frames : Frames) (marks : Marks) : Type 0 where
  pub positions : List ℕ
  pub denote : Pointwise (λ m n. position_of frames m ≡ Some n) marks.places positions
  pub are : positions_of frames marks ≡ positions
  pub top : ℕ
  pub rise : Rises 0 positions top

pub marks_climb : (frames : Frames) (marks : Marks) → rules_reading frames 0 0 None (entries_of marks) ≡ Ok tt → AreMarks marks → AreClimbing frames marks
marks_climb frames marks rules complete =
    let entries = all_entries frames 0 0 None (entries_of marks) rules in
    let climb : Climb frames None marks.places (joined entries.0) =
    subst (λ (ms : List Mark). Climb frames None ms (joined entries.0)) (joined_marks marks.per_granule marks.places marks.rows complete.complete) (climb_all frames 0 None (entries_of marks) entries.0 entries.1) in
    record { positions = joined entries.0; denote = climb.denote; are = positions_are frames marks.places (joined entries.0) climb.denote; top = climb.top; rise = climb.positions }

-- ---- the payload of a mark

-- a mark and the one after it, in a data file
pub record StandsAt (file : List ℕ) (frames : Frames) (marks : Marks) (index : ℕ) (mark : Mark) (start end : ℕ) : Type 0 where
  pub climbs : start ≤ end
  pub within : mark.offset ≤ length file
  pub has : HasPayload (drop mark.offset file) mark.inner (end - start)
  pub payload : (blocks : List Block) → IsFileOf blocks (drop mark.offset file) → take (end - start) (drop mark.inner (payload_of blocks)) ≡ get_or (payloads_of file frames marks).payloads index []

-- the frames from a mark on
record FromMark (blocks : List Block) (file : List ℕ) (mark : Mark) (start : ℕ) : Type 0 where
  rest : List Block
  is_file : IsFileOf rest (drop mark.offset file)
  within : mark.offset ≤ length file
  before : ℕ
  start_is : start ≡ before + mark.inner
  payload : drop before (payload_of blocks) ≡ payload_of rest
  long : before + length (payload_of rest) ≡ length (payload_of blocks)
  in_first : (first : Block) (others : List Block) → rest ≡ first ∷ others → mark.inner ≤ length first.payload

all_after : (xs ys : List Block) → All IsBlock (xs ++ ys) → All IsBlock ys
all_after [] ys are = are
all_after (x ∷ xs) ys are = all_after xs ys (All-tail IsBlock x (xs ++ ys) are)

from_frame : (blocks : List Block) (file : List ℕ) (mark : Mark) (start : ℕ) → IsFileOf blocks file → MarksFrame blocks mark start → FromMark blocks file mark start
from_frame blocks file mark start is at =
    let rest : List Block = at.here ∷ at.after in
    let whole : file ≡ file_of at.before ++ file_of rest = is.bytes ∙ ap file_of at.split ∙ flat_map-append _ at.before rest in
    let paid : payload_of blocks ≡ payload_of at.before ++ payload_of rest = ap payload_of at.split ∙ flat_map-append _ at.before rest in
    record {
      rest = rest;
      is_file = record {
        each = all_after at.before rest (subst (λ (bs : List Block). All IsBlock bs) at.split is.each);
        bytes = ap (drop mark.offset) whole ∙ drop_at (file_of at.before) (file_of rest) mark.offset (sym at.at_offset);
      };
      within = omega (arith, at.at_offset, ap (λ (b : List ℕ). length b) whole, length-append (file_of at.before) (file_of rest));
      before = length (payload_of at.before);
      start_is = at.at_position;
      payload = ap (drop (length (payload_of at.before))) paid ∙ drop_at (payload_of at.before) (payload_of rest) (length (payload_of at.before)) refl;
      long = omega (arith, ap (λ (b : List ℕ). length b) paid, length-append (payload_of at.before) (payload_of rest));
      in_first = λ first others e. same_first at.here first at.after others e at.within;
    }
  where
    same_first : (here first : Block) (after others : List Block) → here ∷ after ≡ first ∷ others → mark.inner ≤ length here.payload → mark.inner ≤ length first.payload
    same_first here first after others e within = let same : here ≡ first = cc in subst (λ (b : Block). mark.inner ≤ length b.payload) same within

from_end : (blocks : List Block) (file : List ℕ) (mark : Mark) (start : ℕ) → IsFileOf blocks file → MarksEnd blocks mark start → FromMark blocks file mark start
from_end blocks file mark start is at =
    let size : mark.offset ≡ length file = at.at_offset ∙ ap (λ (b : List ℕ). length b) (sym is.bytes) in
    record {
      rest = [];
      is_file = record { each = no_blocks; bytes = nothing (drop mark.offset file) (omega (arith, size, length-drop mark.offset file)) };
      within = omega (arith, size);
      before = start;
      start_is = omega (arith, at.at_start);
      payload = nothing (drop start (payload_of blocks)) (omega (arith, at.at_position, length-drop start (payload_of blocks)));
      long = omega (arith, at.at_position);
      in_first = λ first others e. absurd cc;
    }
  where
    no_blocks : All IsBlock []
    no_blocks = λ k d h. absurd (omega arith)

    nothing : (bytes : List ℕ) → length bytes ≡ 0 → bytes ≡ []
    nothing [] e = refl
    nothing (b ∷ bytes) e = absurd (omega arith)

from_mark : (blocks : List Block) (file : List ℕ) (mark : Mark) (start : ℕ) → IsFileOf blocks file → MarksPosition file mark start → FromMark blocks file mark start
from_mark blocks file mark start is (others, is_others, at) =
    by (subst (λ (cs : List Block). MarksFrame cs mark start ⊎ MarksEnd cs mark start) (one_file file others blocks is_others is) at)
  where
    by : MarksFrame blocks mark start ⊎ MarksEnd blocks mark start → FromMark blocks file mark start
    by (inl here) = from_frame blocks file mark start is here
    by (inr end) = from_end blocks file mark start is end

marks_there : (per : ℕ) (rows : List ℕ) (index : ℕ) (places : List Mark) → 1 ≤ per → length places ≡ length rows * per → index < length (take (length rows - 1) rows) * per → length (take (length rows - 1) rows) * per < length places
marks_there per [] index places some long h = absurd (omega (arith, h))
marks_there per (r ∷ rows) index places some long h =
    let few : length (take (length (r ∷ rows) - 1) (r ∷ rows)) ≡ length rows = length-take-le (length (r ∷ rows) - 1) (r ∷ rows) (omega arith) ∙ omega arith in
    omega (arith, long, ap (λ (k : ℕ). k * per) few)

pub index_there : (marks : Marks) (index : ℕ) → AreMarks marks → index < mark_count marks → mark_count marks < length marks.places
index_there marks index complete h = marks_there marks.per_granule marks.rows index marks.places complete.some complete.complete h

pub payload_stands : (file : List ℕ) (frames : Frames) (marks : Marks) (index : ℕ) (mark : Mark) → AreBytes file → frames_in file ≡ Ok frames → rules_reading frames 0 0 None (entries_of marks) ≡ Ok tt → AreMarks marks → index < mark_count marks
    → mark ≡ get_or marks.places index mark → StandsAt file frames marks index mark (get_or (positions_of frames marks) index 0) (get_or (positions_of frames marks) (index + 1) 0)
payload_stands file frames marks index mark bytes framed rules complete h at =
    let cut = frames_are file frames framed in
    let is = file_is file cut.blocks bytes cut.reads in
    let climb = marks_climb frames marks rules complete in
    let are_frames : AreFramesOf frames file = (cut.blocks, is, cut.list, cut.end) in
    let many = marks_there marks.per_granule marks.rows index marks.places complete.some complete.complete h in
    let ns = climb.positions in
    let long = length-positions frames marks.places ns climb.denote in
    let start = get_or ns index 0 in
    let end = get_or ns (index + 1) 0 in
    let here : position_of frames mark ≡ Some start = ap (λ (m : Mark). position_of frames m) at ∙ denotes_at frames marks.places ns index mark climb.denote (omega (arith, many, h)) in
    let next : position_of frames (get_or marks.places (index + 1) mark) ≡ Some end = denotes_at frames marks.places ns (index + 1) mark climb.denote (omega (arith, many, h)) in
    let from = from_mark cut.blocks file mark start is ((position_denotes frames mark (position_of frames mark) refl file are_frames start).0 here) in
    let next_at = (position_denotes frames (get_or marks.places (index + 1) mark) _ refl file are_frames end).0 next in
    let inside : end ≤ length (payload_of cut.blocks) = marked_within (payload_of cut.blocks) file (cut.blocks, is, refl) end (get_or marks.places (index + 1) mark, next_at) in
    let up : start ≤ end = rises_at 0 climb.top ns index climb.rise (omega (arith, many, h, long)) in
    subst (λ (ps : List ℕ). StandsAt file frames marks index mark (get_or ps index 0) (get_or ps (index + 1) 0)) (sym climb.are)
    (record {
      climbs = up;
      within = from.within;
      has = record { blocks = from.rest; is_file = from.is_file; there = omega (arith, inside, up, from.start_is, from.long); in_first = from.in_first };
      payload = λ blocks others.
          let same : blocks ≡ from.rest = one_file (drop mark.offset file) blocks from.rest others from.is_file in
          let inner : drop start (payload_of cut.blocks) ≡ drop mark.inner (payload_of from.rest) =
          ap (λ (k : ℕ). drop k (payload_of cut.blocks)) from.start_is ∙ drop_twice from.before mark.inner (payload_of cut.blocks) ∙ ap (drop mark.inner) from.payload in
          ap (λ (bs : List Block). take (end - start) (drop mark.inner (payload_of bs))) same ∙ ap (take (end - start)) (sym inner)
          ∙ ap (λ (p : List ℕ). take (end - start) (drop start p)) (sym (payload_is file cut.blocks cut.reads))
          ∙ sym (piece_at (payload_in file) ns (mark_count marks) index h (omega (arith, many, long)))
          ∙ ap (λ (ps : List ℕ). get_or (pieces (payload_in file) (take (mark_count marks + 1) ps)) index []) (sym climb.are);
    })
  where
    drop_twice : (a b : ℕ) (xs : List ℕ) → drop (a + b) xs ≡ drop b (drop a xs)
    drop_twice a b xs = sym (drop-drop b a xs)
