use Rattle.std.proofs.Common.{sym, ◌∙◌, get_or}
use Rattle.std.proofs.lemmas.List.{get_or_default}
use Rattle.mt_defs.specs.declared.mark.Mark.{Mark}
use Rattle.mt_files.proofs.PositionLemmas.{mark_fails, mark_holds, marks_done}
use Rattle.mt_files.proofs.skip_marks.read_positions.Goals as goal

pub returns-in-Err : goal.returns-in-Err
returns-in-Err c =
    let marks = c.args.marks.now in
    let none : Mark = record { offset = 0; inner = 0 } in
    let mark = get_or marks c.loop-index.index none in
    mark_fails c.args.file.now c.args.per_entry c.args.frames.now.end c.args.frames.now.list marks c.loop-index.index c.loop-index.former mark c.loop-index.positions _ c.in-Err.why c.granule_fault.result c.loop-index.invariant c.loop-index-test.true
    (get_or_default marks c.loop-index.index none mark c.loop-index-test.true) (sym c.check_mark.ensures ∙ c.in-Err.is) c.granule_fault.ensures

pub loop-index-preserved : goal.loop-index-preserved
loop-index-preserved c =
    let marks = c.args.marks.now in
    let none : Mark = record { offset = 0; inner = 0 } in
    let mark = get_or marks c.loop-index.index none in
    mark_holds c.args.file.now c.args.per_entry c.args.frames.now.end c.args.frames.now.list marks c.loop-index.index c.loop-index.former mark c.loop-index.positions _ _ c.in-Ok-check_mark.here c.loop-index.invariant c.loop-index-test.true
    (get_or_default marks c.loop-index.index none mark c.loop-index-test.true) (sym c.check_mark.ensures ∙ c.in-Ok-check_mark.is) c.in-Ok-push.ensures.ok

pub returns : goal.returns
returns c = marks_done c.args.file.now c.args.per_entry c.args.frames.now.end c.args.frames.now.list c.args.marks.now c.loop-index.index c.loop-index.former c.loop-index.positions _ c.loop-index.invariant c.loop-index-test.false
