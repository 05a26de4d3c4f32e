use Rattle.mt_plain.proofs.ItemLemmas.{rows_dropped}
use Rattle.mt_plain.proofs.GranuleLemmas.{granule_step}
use Rattle.mt_plain.proofs.granules.granules_of.Goals as goal

pub loop-rest-preserved : goal.loop-rest-preserved
loop-rest-preserved c = record {
  ahead = granule_step c.args.table.now _ _ _ _ _ _ c.in_ok-count.ensures c.split_at.ensures.back c.in_ok-push.ensures.ok c.loop-rest.invariant.ahead;
  numbers = rows_dropped _ _ _ _ c.loop-rest.invariant.numbers c.split_at.ensures.back;
}
