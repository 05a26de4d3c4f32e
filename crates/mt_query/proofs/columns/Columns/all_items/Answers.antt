use Rattle.mt_query.specs.declared.query.Item.TheVariants.{Column}
use Rattle.mt_query.proofs.ListLemmas.{mapped_more}
use Rattle.mt_query.proofs.columns.Columns.all_items.Goals as goal

pub loop-place-preserved : goal.loop-place-preserved
loop-place-preserved c = mapped_more Column c.loop-place.place c.loop-place.items _ c.in_ok-push.ensures.ok c.loop-place.invariant
