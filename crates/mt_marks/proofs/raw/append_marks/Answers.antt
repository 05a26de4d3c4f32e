use Rattle.std.proofs.Common.{arith}
use Rattle.mt_marks.proofs.RawLemmas.{marks_step, marks_end}
use Rattle.mt_marks.proofs.raw.append_marks.Goals as goal

pub loop-preserved : goal.loop-preserved
loop-preserved c =
    rw (c.in_ok-push.ensures.ok, c.bytes_after-rest.ensures, c.number_at.ensures, c.number_at-in-loop.ensures)
    (marks_step c.args.per_granule c.args.bytes.now c.args.places.now c.loop.counter c.loop.rest.now c.loop.places c.loop-test.true
    (omega (arith, c.loop.invariant.long, c.requires, c.loop-test.true)) c.loop.invariant)

pub returns-clause-places : goal.returns-clause-places
returns-clause-places c =
    marks_end c.args.per_granule c.args.bytes.now c.args.places.now c.loop.counter c.loop.rest.now c.loop.places c.loop-test.false c.loop.invariant
