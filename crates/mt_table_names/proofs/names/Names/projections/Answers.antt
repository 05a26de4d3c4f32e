use Rattle.mt_table_names.specs.NameSets.{listed}
use Rattle.mt_table_names.specs.Places.{projection_in}
use Rattle.mt_table_names.proofs.PartLemmas.{found_more}
use Rattle.mt_table_names.proofs.names.Names.projections.Goals as goal

pub loop-element-preserved : goal.loop-element-preserved
loop-element-preserved c =
    found_more (projection_in (listed c.args.self.now)) c.args.elements.now c.loop-element.element-index c.element-item.result _ c.loop-element.projections _ c.in_ok-found.found c.loop-element-test.true c.element-item.is
    c.in_ok-found.ensures c.in_ok-append_found.ensures c.loop-element.invariant
