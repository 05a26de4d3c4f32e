use Rattle.std.proofs.Common.{sym, ◌∙◌}
use Rattle.mt_marks.proofs.EntryLemmas.{mark_holds, mark_breaks, marks_hold}
use Rattle.mt_marks.proofs.entries.check_entry.Goals as goal

pub returns-in-Err : goal.returns-in-Err
returns-in-Err c =
    sym (mark_breaks c.args.frames.now c.args.last c.loop-mark.before c.args.entry.now c.loop-mark.mark-index _ c.in-Err.why c.loop-mark-test.true (sym c.check_mark.ensures ∙ c.in-Err.is)) ∙ c.loop-mark.invariant

pub loop-mark-preserved : goal.loop-mark-preserved
loop-mark-preserved c =
    sym (mark_holds c.args.frames.now c.args.last c.loop-mark.before c.args.entry.now c.loop-mark.mark-index _ c.in-Ok.here c.loop-mark-test.true (sym c.check_mark.ensures ∙ c.in-Ok.is)) ∙ c.loop-mark.invariant

pub returns : goal.returns
returns c = sym (marks_hold c.args.frames.now c.args.last c.loop-mark.before c.args.entry.now c.loop-mark.mark-index c.loop-mark-test.false) ∙ c.loop-mark.invariant
