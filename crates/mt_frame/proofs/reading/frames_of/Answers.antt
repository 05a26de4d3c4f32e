use Rattle.std.proofs.Common.{arith, ◌≤◌, ◌+◌, length, drop}
use Rattle.std.proofs.lemmas.List.{length-drop}
use Rattle.mt_frame.proofs.LoopLemmas.{goes_on, stops, ends, is_file}
use Rattle.mt_frame.proofs.reading.frames_of.Goals as goal

pub loop-offset-preserved : goal.loop-offset-preserved
loop-offset-preserved c =
    let bounds = c.in-Ok.ensures.bounds in
    let file = c.args.file.now in
    let whole : 25 + c.in-Ok.payload ≤ length (drop c.loop-offset.offset file) = omega (arith, bounds.2, length-drop c.loop-offset.offset file) in
    rw c.in_ok-push-in-Ok.ensures.ok (goes_on file c.loop-offset.list c.loop-offset.offset c.in-Ok.payload c.loop-offset-test.true bounds.0 bounds.1 whole c.in-Ok.ensures.gives c.loop-offset.invariant)

pub returns-in-Err-clause-reads : goal.returns-in-Err-clause-reads
returns-in-Err-clause-reads c = stops c.args.file.now c.loop-offset.list c.loop-offset.offset c.in-Err.why c.loop-offset-test.true c.in-Err.ensures.gives c.loop-offset.invariant

pub returns-clause-reads : goal.returns-clause-reads
returns-clause-reads c = ends c.args.file.now c.loop-offset.list c.loop-offset.offset c.loop-offset-test.false c.loop-offset.invariant

pub returns-clause-found : goal.returns-clause-found
returns-clause-found c = is_file c.args.file.now c.loop-offset.list c.loop-offset.offset (λ i. omega (arith, c.type_inv.file i)) c.loop-offset-test.false c.loop-offset.invariant
