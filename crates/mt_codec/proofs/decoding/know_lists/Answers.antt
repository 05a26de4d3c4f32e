use Rattle.std.proofs.lemmas.List.{get_or_default}
use Rattle.mt_codec.proofs.DecodedLemmas.{all_slices, one_slice}
use Rattle.mt_codec.proofs.decoding.know_lists.Goals as goal

pub loop-stream-preserved : goal.loop-stream-preserved
loop-stream-preserved c = one_slice c.args.streams.now c.loop-stream.stream-index _ c.loop-stream-test.true (get_or_default c.args.streams.now c.loop-stream.stream-index _ _ c.loop-stream-test.true) c.know_bytes.ensures c.loop-stream.invariant

pub returns : goal.returns
returns c = all_slices c.args.streams.now c.loop-stream.stream-index c.loop-stream-test.false c.loop-stream.invariant
