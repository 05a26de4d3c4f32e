use Rattle.std.proofs.Common.{arith, sym, ◌∙◌}
use Rattle.mt_marks.proofs.PositionLemmas.{room_at_frame, found_in_frame, found_past_payload, found_between, room_at_end, found_at_end, found_past_end}
use Rattle.mt_marks.proofs.position.position.Goals as goal
use Rattle.mt_marks.proofs.position.position.Goals.{then-mark-end-via-then-mark-end, then-mark-end-via-else-mark-end+then-mark-ne0}

pub returns-then-mark-frame : goal.returns-then-mark-frame
returns-then-mark-frame c =
    found_past_payload c.args.frames.now c.args.mark.now c.count_before-index.result c.in-Some.frame c.count_before-index.ensures (sym c.frame_at.ensures ∙ c.in-Some.is) c.if-frame-mark.true c.if-mark-frame.true

pub without_headers-requires : goal.without_headers-requires
without_headers-requires c =
    (room_at_frame c.args.frames.now c.args.mark.now c.count_before-index.result c.in-Some.frame c.count_before-index.ensures (sym c.frame_at.ensures ∙ c.in-Some.is) c.if-frame-mark.true).0

pub overflow_add-result : goal.overflow_add-result
overflow_add-result c =
    let room = room_at_frame c.args.frames.now c.args.mark.now c.count_before-index.result c.in-Some.frame c.count_before-index.ensures (sym c.frame_at.ensures ∙ c.in-Some.is) c.if-frame-mark.true in
    omega (arith, room.0, room.1, c.without_headers.ensures, c.if-mark-frame.false)

pub returns-then-mark-end : goal.returns-then-mark-end
returns-then-mark-end c =
    found_past_end c.args.frames.now c.args.mark.now c.count_before-index.result c.count_before-index.ensures (sym c.frame_at.ensures ∙ c.in-None.is)
    (λ same start. elim c.then-mark-end.branch [ then-mark-end-via-then-mark-end w ↦ w.if-mark-end.true same | then-mark-end-via-else-mark-end+then-mark-ne0 w ↦ w.if-mark-ne0.true start ])

pub without_headers-requires-in-None : goal.without_headers-requires-in-None
without_headers-requires-in-None c =
    room_at_end c.args.frames.now c.args.mark.now c.count_before-index.result c.count_before-index.ensures (sym c.frame_at.ensures ∙ c.in-None.is) c.if-mark-end.false

pub returns-else-mark-frame : goal.returns-else-mark-frame
returns-else-mark-frame c =
    rw c.without_headers.ensures
    (found_in_frame c.args.frames.now c.args.mark.now c.count_before-index.result c.in-Some.frame c.count_before-index.ensures (sym c.frame_at.ensures ∙ c.in-Some.is) c.if-frame-mark.true c.if-mark-frame.false)

pub returns-in-Some-2 : goal.returns-in-Some-2
returns-in-Some-2 c =
    found_between c.args.frames.now c.args.mark.now c.count_before-index.result c.in-Some.frame c.count_before-index.ensures (sym c.frame_at.ensures ∙ c.in-Some.is) c.if-frame-mark.false

pub returns-else-mark-ne0 : goal.returns-else-mark-ne0
returns-else-mark-ne0 c =
    rw c.without_headers-in-None.ensures
    (found_at_end c.args.frames.now c.args.mark.now c.count_before-index.result c.count_before-index.ensures (sym c.frame_at.ensures ∙ c.in-None.is) c.if-mark-end.false c.if-mark-ne0.false)
