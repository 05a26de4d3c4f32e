use Rattle.std.proofs.Common.{List, ap, ◌∙◌}
use Rattle.std.specs.Prelude.{Ok}
use Rattle.std.proofs.lemmas.Result.{err_from_is_err_and}
use Rattle.mt_granules.specs.FileFolder.{indexed_folder}
use Rattle.mt_granules.proofs.OrderLemmas.{order_continues}
use Rattle.mt_granules.proofs.StepLemmas.{fails_in_order}
use Rattle.mt_wide.specs.StreamView.{streams_in}
use Rattle.mt_wide.specs.WideReading.{stream_reading}
use Rattle.mt_wide.proofs.ReadingLemmas.{each_more, streams_more}
use Rattle.mt_wide.proofs.column.read_streams.Goals as goal

pub returns-in_err-read_stream-clause-reads : goal.returns-in_err-read_stream-clause-reads
returns-in_err-read_stream-clause-reads c =
    let p = err_from_is_err_and c.from_residual-in_err-read_stream.result c.from_residual-in_err-read_stream.ensures.1 in
    rw (p.1, p.2) (fails_in_order c.in_err-read_stream.field-0.0 (stream_reading (indexed_folder c.args.folder.now) c.args.granules.now) c.args.names.now c.loop-name.name-index c.name-item.result _
    c.loop-name-test.true c.name-item.is c.loop-name.invariant.so_far (rw c.as_slice.ensures at c.in_err-read_stream.ensures.reads))

pub loop-name-preserved : goal.loop-name-preserved
loop-name-preserved c = record {
  so_far = order_continues (stream_reading (indexed_folder c.args.folder.now) c.args.granules.now) c.args.names.now c.loop-name.name-index c.name-item.result (streams_in c.loop-name.streams) _ c.loop-name-test.true c.name-item.is
      c.loop-name.invariant.so_far (rw c.as_slice.ensures at c.in_ok-read_stream.ensures.reads)
      ∙ ap (λ (l : List _). Ok l) (streams_more c.loop-name.streams c.push.new.self c.in_ok-read_stream.field-0 c.in_ok-push.ensures.ok);
  each = each_more c.args.granules.now c.loop-name.streams c.push.new.self c.in_ok-read_stream.field-0 c.in_ok-push.ensures.ok c.loop-name.invariant.each c.in_ok-read_stream.ensures.each;
}
