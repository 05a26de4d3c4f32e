use Rattle.mt_blocks.proofs.SortLemmas.{places_none, places_more}
use Rattle.mt_blocks.proofs.sort.places_of.Goals as goal

pub loop-index-init : goal.loop-index-init
loop-index-init c = places_none c.args.columns.now c.in_ok-places.places.items c.in_ok-places.ensures.items

pub loop-index-preserved : goal.loop-index-preserved
loop-index-preserved c = places_more c.args.columns.now c.loop-index.index c.first_rank-rank.result c.second_rank-second.result c.loop-index.places.items c.push.new.self.items c.loop-index.invariant c.in_ok-push.ensures.items c.first_rank-rank.ensures c.second_rank-second.ensures
