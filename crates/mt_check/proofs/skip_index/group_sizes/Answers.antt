use Rattle.mt_check.proofs.GroupLemmas.{sizes_more, rest_less}
use Rattle.mt_check.proofs.skip_index.group_sizes.Goals as goal

pub loop-rest-preserved : goal.loop-rest-preserved
loop-rest-preserved c = record {
  ahead = sizes_more c.args.per_entry c.min.result c.rows_of.result c.loop-rest.rest.now c.split_at.result.0.now c.split_at.result.1.now c.loop-rest.sizes c.push.new.self _ c.is_empty.result c.requires.some c.is_empty.ensures c.loop-rest-test.true
      c.min.ensures c.split_at.ensures.front c.split_at.ensures.back c.rows_of.ensures c.in_ok-push.ensures.ok c.loop-rest.invariant.ahead;
  small = rest_less c.min.result c.loop-rest.rest.now c.split_at.result.1.now c.args.granules.now c.split_at.ensures.back c.loop-rest.invariant.small;
}
