use Rattle.std.proofs.lemmas.List.{drop_more}
use Rattle.mt_plain.proofs.ItemLemmas.{numbers_dropped}
use Rattle.mt_plain.proofs.ColumnLemmas.{granule_taken, rows_left, data_step, marks_step}
use Rattle.mt_plain.proofs.columns.stream_of.Goals as goal

pub loop-count-preserved : goal.loop-count-preserved
loop-count-preserved c =
    let here = drop_more c.args.granules.now c.loop-count.count-index 0 c.loop-count-test.true in
    let granule = granule_taken _ _ _ _ c.min.ensures c.split_at.ensures.front in
    let after = rows_left _ _ _ _ c.min.ensures c.split_at.ensures.back in
    record {
      framed = data_step c.args.column_index _ _ _ _ _ _ _ _ _ here granule after c.in_ok-append_granule.ensures c.loop-count.invariant.framed;
      marked = marks_step c.args.column_index _ _ _ _ _ _ _ _ _ _ _ _ here granule after c.len.ensures c.in_ok-append_entry.ensures c.in_ok-append_granule.ensures c.loop-count.invariant.marked;
      numbers = numbers_dropped c.args.column_index c.loop-count.rest.now c.split_at.result.1.now c.min.result c.loop-count.invariant.numbers c.split_at.ensures.back;
    }
