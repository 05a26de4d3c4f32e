use Rattle.mt_wide.specs.StreamFiles.{numbered_files}
use Rattle.mt_granules.proofs.NumberedLemmas.{numbered_step, numbered_end}
use Rattle.mt_wide.proofs.StreamLemmas.{same_name}
use Rattle.mt_wide.proofs.writing.append_streams.Goals as goal

pub loop-stream_index-preserved : goal.loop-stream_index-preserved
loop-stream_index-preserved c =
    numbered_step (numbered_files c.args.granules.now c.args.streams.now) _ _ _ c.args.names.now c.loop-stream_index.stream_index c.index-names-stream_index.result c.loop-stream_index-test.true
    c.index-names-stream_index.is c.loop-stream_index.invariant (same_name c.args.granules.now c.args.streams.now c.loop-stream_index.stream_index _ c.index-names-stream_index.result _ _ c.as_slice.ensures c.in_ok-append_stream.ensures)

pub returns : goal.returns
returns c = numbered_end (numbered_files c.args.granules.now c.args.streams.now) _ _ c.args.names.now c.loop-stream_index.stream_index c.loop-stream_index-test.false c.loop-stream_index.invariant
