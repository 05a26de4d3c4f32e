use Rattle.std.proofs.Common.{◌/◌, ◌+◌, ◌*◌, length}
use Rattle.mt_marks.proofs.RawLemmas.{entries_step, all_read, all_complete}
use Rattle.mt_marks.proofs.raw.raw_marks.Goals as goal

pub loop-preserved : goal.loop-preserved
loop-preserved c =
    rw (c.in_ok-push.ensures.ok, c.in_ok-append_marks.ensures.places, c.in_ok-append_marks.ensures.rows, c.bytes_after-rest.ensures)
    (entries_step c.args.per_granule (length c.args.bytes.now / (16 * c.args.per_granule + 8)) c.args.bytes.now c.loop.counter c.loop.rest.now c.loop.places c.loop.rows c.loop-test.true c.loop.invariant)

pub returns-clause-found : goal.returns-clause-found
returns-clause-found c =
    all_read c.args.per_granule c.args.bytes.now c.loop.counter c.loop.rest.now c.loop.places c.loop.rows c.if-bytes-entry_len-ne0.false c.loop-test.false c.loop.invariant

pub returns-clause-complete : goal.returns-clause-complete
returns-clause-complete c =
    all_complete c.args.per_granule (length c.args.bytes.now / (16 * c.args.per_granule + 8)) c.args.bytes.now c.loop.counter c.loop.rest.now c.loop.places c.loop.rows c.requires.some c.requires.few c.loop-test.false c.loop.invariant
