use Rattle.std.proofs.Common.{ap, ◌∙◌, arith, take, drop, length, get_or, List, ℕ}
use Rattle.mt_files.proofs.FrameLemmas.{next_frame, payload_more, payload_whole}
use Rattle.mt_files.proofs.skip_entries.payload_of.Goals as goal

pub split_at-requires : goal.split_at-requires
split_at-requires c =
    let (blocks, is, laid, ends) = c.requires in
    let next = next_frame c.args.file.now c.args.frames.now.list c.as_slice-frame-items.result.now blocks c.loop-frame.frame-index c.loop-frame.rest.now (record { offset = 0; payload = 0 }) is laid c.as_slice-frame-items.ensures
    (c.loop-frame.invariant blocks is laid).1 c.loop-frame-test.true in
    next.cut.header

pub split_at-requires-in-loop-frame : goal.split_at-requires-in-loop-frame
split_at-requires-in-loop-frame c =
    let (blocks, is, laid, ends) = c.requires in
    let next = next_frame c.args.file.now c.args.frames.now.list c.as_slice-frame-items.result.now blocks c.loop-frame.frame-index c.loop-frame.rest.now (record { offset = 0; payload = 0 }) is laid c.as_slice-frame-items.ensures
    (c.loop-frame.invariant blocks is laid).1 c.loop-frame-test.true in
    omega (arith, next.size, next.cut.long, ap length c.split_at.ensures.back)

pub loop-frame-preserved : goal.loop-frame-preserved
loop-frame-preserved c blocks is laid =
    let next = next_frame c.args.file.now c.args.frames.now.list c.as_slice-frame-items.result.now blocks c.loop-frame.frame-index c.loop-frame.rest.now (record { offset = 0; payload = 0 }) is laid c.as_slice-frame-items.ensures
    (c.loop-frame.invariant blocks is laid).1 c.loop-frame-test.true in
    let cut = c.split_at-in-loop-frame in
    let size = (get_or c.as_slice-frame-items.result.now c.loop-frame.frame-index (record { offset = 0; payload = 0 })).payload in (
      payload_more blocks c.loop-frame.frame-index c.loop-frame.rest.now size c.loop-frame.payload c.append.new.self cut.result.0.now next (c.loop-frame.invariant blocks is laid).0
          (cut.ensures.front ∙ ap (λ (rest : List ℕ). take size rest) c.split_at.ensures.back) c.in_ok-append.ensures.ok,
      cut.ensures.back ∙ ap (λ (rest : List ℕ). drop size rest) c.split_at.ensures.back ∙ ap (λ k. drop k (drop 25 c.loop-frame.rest.now)) next.size ∙ next.cut.rest_is,
    )

pub returns : goal.returns
returns c blocks is laid =
    payload_whole blocks c.args.frames.now.list c.as_slice-frame-items.result.now c.loop-frame.frame-index c.loop-frame.payload laid c.as_slice-frame-items.ensures c.loop-frame-test.false (c.loop-frame.invariant blocks is laid).0
