use Rattle.mt_sort.specs.References.{rows_in}
use Rattle.mt_proj.proofs.WalkLemmas.{one_fails}
use Rattle.mt_proj.proofs.grouped.merge_to_folds.Goals as goal

pub returns-then-not-merges_to_fold : goal.returns-then-not-merges_to_fold
returns-then-not-merges_to_fold c = (
  λ e. cc,
  λ m. absurd (one_fails c.args.columns.now c.args.aggs.now (rows_in c.args.rows.now) (rows_in c.args.stored.now) c.loop-aggregate.aggregate-index _ c.aggregate_index.result c.merges_to_fold.result
      c.loop-aggregate-test.true c.aggregate_index.ensures.index c.merges_to_fold.ensures c.if-not-merges_to_fold.true m),
)
