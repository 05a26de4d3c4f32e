use Rattle.std.proofs.lemmas.List.{drop_more}
use Rattle.mt_plain.proofs.ItemLemmas.{numbers_dropped}
use Rattle.mt_plain.proofs.ColumnLemmas.{granule_taken, rows_left}
use Rattle.mt_plain.proofs.IndexLemmas.{first_step}
use Rattle.mt_plain.proofs.index.append_first_keys.Goals as goal

pub loop-count-preserved : goal.loop-count-preserved
loop-count-preserved c = record {
  ahead = first_step c.args.key _ _ _ _ _ _ _ _ _ _ _ (drop_more c.args.granules.now c.loop-count.count-index 0 c.loop-count-test.true)
      (granule_taken _ _ _ _ c.min.ensures c.split_at.ensures.front) (rows_left _ _ _ _ c.min.ensures c.split_at.ensures.back)
      c.min-in-loop-count.ensures c.split_at-in-loop-count.ensures.front c.in_ok-append_items.ensures c.loop-count.invariant.ahead;
  numbers = numbers_dropped c.args.key c.loop-count.rest.now c.split_at.result.1.now c.min.result c.loop-count.invariant.numbers c.split_at.ensures.back;
}
