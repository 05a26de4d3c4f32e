use Rattle.std.proofs.Common.{refl, sym, ◌∙◌}
use Rattle.mt_marks.proofs.EntryLemmas.{rows_break, entry_breaks, entry_holds, rules_hold}
use Rattle.mt_marks.proofs.entries.check_marks.Goals as goal

pub returns-in_default : goal.returns-in_default
returns-in_default c =
    rw (c.fault.ensures, ← c.as_slice-rows.ensures)
    (rows_break c.args.frames.now c.args.marks.now.per_granule c.args.marks.now.places c.as_slice-rows.result.now c.loop-index.index c.loop-index.rest.now c.loop-index.total c.loop-index.former _ _
    c.loop-index-test.true refl refl c.loop-index.invariant (sym c.in_default.is ∙ c.sum_of_rows.ensures))

pub returns-in-Err : goal.returns-in-Err
returns-in-Err c =
    rw (c.fault-in-Err.ensures, ← c.as_slice-rows.ensures)
    (entry_breaks c.args.frames.now c.args.marks.now.per_granule c.args.marks.now.places c.as_slice-rows.result.now c.loop-index.index c.loop-index.rest.now c.loop-index.total c.loop-index.former _ _
    c.loop-index-test.true refl refl c.loop-index.invariant c.in-Some.sum c.in-Err.why (sym c.in-Some.is ∙ c.sum_of_rows.ensures) (rw (← c.split_at.ensures.front) (sym c.check_entry.ensures ∙ c.in-Err.is)))

pub loop-index-preserved : goal.loop-index-preserved
loop-index-preserved c =
    rw c.split_at.ensures.back
    (entry_holds c.args.frames.now c.args.marks.now.per_granule c.args.marks.now.places c.as_slice-rows.result.now c.loop-index.index c.loop-index.rest.now c.loop-index.total c.loop-index.former _ _
    c.loop-index-test.true refl refl c.loop-index.invariant c.in-Some.sum c.in-Ok.here (sym c.in-Some.is ∙ c.sum_of_rows.ensures) (rw (← c.split_at.ensures.front) (sym c.check_entry.ensures ∙ c.in-Ok.is)))

pub returns : goal.returns
returns c =
    rw (← c.as_slice-rows.ensures)
    (rules_hold c.args.frames.now c.args.marks.now.per_granule c.args.marks.now.places c.as_slice-rows.result.now c.loop-index.index c.loop-index.rest.now c.loop-index.total c.loop-index.former
    c.loop-index-test.false c.loop-index.invariant)
