use Rattle.mt_compact.proofs.WrittenLemmas.{joined_step}
use Rattle.mt_compact.proofs.writing.joined.Goals as goal

pub loop-stream-preserved : goal.loop-stream-preserved
loop-stream-preserved c =
    joined_step c.args.streams.now c.loop-stream.stream-index c.stream-item.result _ _ _ c.loop-stream-test.true c.stream-item.is c.as_slice.ensures c.in_ok-append.ensures.ok c.loop-stream.invariant
