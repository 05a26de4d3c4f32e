-- The payloads between the marks of a file that keep the rules.
use Rattle.std.proofs.Common.{◌≡◌, ℕ, ◌+◌, ◌-◌, ◌<◌, ◌≤◌, List, [], ◌++◌, length, map, take, drop, get_or, ap, sym, ◌∙◌, subst, arith, refl, None, Some}
use Rattle.std.proofs.lemmas.List.{drop-take, length-map}
use Rattle.mt_defs.specs.declared.mark.Mark.{Mark}
use Rattle.mt_defs.specs.Frames.{Block, IsFileOf, payload_of}
use Rattle.mt_frame.specs.declared.frames.Frames.{Frames}
use Rattle.mt_frame.specs.Results.{AreFramesOf}
use Rattle.mt_stream.specs.Touched.{AreInOrder}
use Rattle.mt_stream.specs.Reading.{Shows}
use Rattle.mt_stream.proofs.MarkLemmas.{marks_blocks}
use Rattle.mt_marks.specs.declared.marks.Marks.{Marks}
use Rattle.mt_marks.specs.Entries.{AreMarks, entries_of}
use Rattle.mt_marks.proofs.DenotedLemmas.{position_denotes}
use Rattle.mt_marks.proofs.WrittenLemmas.{joined_marks}
use Rattle.mt_granules.specs.PayloadReading.{mark_count, payload_in, payloads_of, positions_of}
use Rattle.mt_granules.proofs.MarkLemmas.{frames_are, file_is, index_there, length-positions, payload_is, positions_are}
use Rattle.mt_granules.proofs.RuleLemmas.{Climb, all_entries, climb_all, joined}
use Rattle.mt_granules.proofs.PieceLemmas.{piece_at}
use Rattle.mt_payload_stream.specs.MarkedFiles.{indexed_mark, IsMarkedBy, AppendsPayload}
use Rattle.mt_payload_stream.proofs.OrderLemmas.{rises_between, offset_at, offsets_len, denotes_there}

-- two marks, the second not before the first
pub in_order : (file : List ℕ) (frames : Frames) (marks : Marks) (blocks : List Block) → IsFileOf blocks file → IsMarkedBy file frames marks → AreMarks marks → (i j : ℕ) → i ≤ j → j < length marks.places
    → AreInOrder blocks (indexed_mark marks i) (indexed_mark marks j) (get_or (positions_of frames marks) i 0) (get_or (positions_of frames marks) j 0)
in_order file frames marks blocks is good complete i j le there =
    let d : Mark = record { offset = 0; inner = 0 } in
    let cut = frames_are file frames good.framed in
    let are_frames : AreFramesOf frames file = (cut.blocks, file_is file cut.blocks good.bytes cut.reads, cut.list, cut.end) in
    let entries = all_entries frames 0 0 None (entries_of marks) good.ruled in
    let ns = joined entries.0 in
    let climb : Climb frames None marks.places ns =
    subst (λ (ms : List Mark). Climb frames None ms ns) (joined_marks marks.per_granule marks.places marks.rows complete.complete) (climb_all frames 0 None (entries_of marks) entries.0 entries.1) in
    let here = denotes_there frames marks.places ns i d climb.denote (omega (arith, le, there)) in
    let later = denotes_there frames marks.places ns j d climb.denote there in
    let offsets = rises_between 0 climb.foot (map (λ (m : Mark). m.offset) marks.places) i j climb.offsets le (omega (arith, there, offsets_len marks.places)) in
    subst (λ (ps : List ℕ). AreInOrder blocks (indexed_mark marks i) (indexed_mark marks j) (get_or ps i 0) (get_or ps j 0)) (sym (positions_are frames marks.places ns climb.denote))
    (record {
      begins_at = marks_blocks file blocks (get_or marks.places i d) (get_or ns i 0) is ((position_denotes frames (get_or marks.places i d) _ refl file are_frames (get_or ns i 0)).0 here);
      ends_at = marks_blocks file blocks (get_or marks.places j d) (get_or ns j 0) is ((position_denotes frames (get_or marks.places j d) _ refl file are_frames (get_or ns j 0)).0 later);
      offsets = omega (arith, offsets, offset_at marks.places i d (omega (arith, le, there)), offset_at marks.places j d there);
      positions = rises_between 0 climb.top ns i j climb.positions le (omega (arith, there, length-positions frames marks.places ns climb.denote));
    })

-- what stands between a mark and the next is the payload that the checker reads there
pub shown_payload : (marks : Marks) (index : ℕ) (old new file : List ℕ) → AreMarks marks → index < mark_count marks → Shows (indexed_mark marks index) (indexed_mark marks (index + 1)) file old new → AppendsPayload marks index old new file
shown_payload marks index old new file complete under shows frames good =
    let cut = frames_are file frames good.framed in
    let is = file_is file cut.blocks good.bytes cut.reads in
    let many = index_there marks index complete under in
    let order = in_order file frames marks cut.blocks is good complete index (index + 1) (omega arith) (omega (arith, many, under)) in
    let ps = positions_of frames marks in
    let p = get_or ps index 0 in
    let q = get_or ps (index + 1) 0 in
    let long : length ps ≡ length marks.places = length-map marks.places _ in
    let whole : q ≡ p + (q - p) = omega (arith, order.positions) in
    shows cut.blocks p q is order.begins_at order.ends_at
    ∙ ap (λ (xs : List ℕ). old ++ xs) (ap (λ (k : ℕ). drop p (take k (payload_of cut.blocks))) whole ∙ drop-take p (q - p) (payload_of cut.blocks)
    ∙ ap (λ (xs : List ℕ). take (q - p) (drop p xs)) (sym (payload_is file cut.blocks cut.reads)) ∙ sym (piece_at (payload_in file) ps (mark_count marks) index under (omega (arith, many, long))))
