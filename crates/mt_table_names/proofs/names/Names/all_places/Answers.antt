use Rattle.mt_table.proofs.PlaceLemmas.{range_more}
use Rattle.mt_table_names.proofs.names.Names.all_places.Goals as goal

pub loop-place-preserved : goal.loop-place-preserved
loop-place-preserved c = range_more c.loop-place.place c.loop-place.places _ c.in_ok-push.ensures.ok c.loop-place.invariant
