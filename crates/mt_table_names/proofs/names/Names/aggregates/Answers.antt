use Rattle.mt_table_names.specs.NameSets.{listed}
use Rattle.mt_table_names.specs.Places.{aggregate_of}
use Rattle.mt_table_names.proofs.PartLemmas.{found_more}
use Rattle.mt_table_names.proofs.names.Names.aggregates.Goals as goal

pub loop-item-preserved : goal.loop-item-preserved
loop-item-preserved c =
    found_more (aggregate_of (listed c.args.self.now)) c.args.items.now c.loop-item.item-index c.item-item.result _ c.loop-item.aggregates _ c.aggregate.result c.loop-item-test.true c.item-item.is
    c.aggregate.ensures c.in_ok-append_found.ensures c.loop-item.invariant
