use Rattle.mt_proj.proofs.WalkLemmas.{group_step}
use Rattle.mt_proj.proofs.grouped.grouped_rows.Goals as goal

pub loop-start-preserved : goal.loop-start-preserved
loop-start-preserved c = record {
  within = c.run_at-run.ensures.within;
  ahead = group_step c.args.columns.now c.args.aggs.now c.args.sorted.now c.run_at-run.result.now c.loop-start.start c.index-sorted-start.result c.loop-start.made.items c.push.new.self.items
      c.in_ok-folded_row.field-0 c.requires.in_order c.loop-start-test.true c.index-sorted-start.is c.run_at-run.ensures.run c.in_ok-folded_row.ensures c.in_ok-push.ensures.items c.loop-start.invariant.ahead;
}
