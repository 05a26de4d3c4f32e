use Rattle.mt_show.specs.Text.{projection_line}
use Rattle.mt_show.proofs.TextLemmas.{pairs_step}
use Rattle.mt_show.proofs.stored.append_projections.Goals as goal

pub loop-place-preserved : goal.loop-place-preserved
loop-place-preserved c =
    pairs_step projection_line c.args.projections.now c.args.sizes.now c.loop-place.place c.index-projections-place.result _ c.loop-place.out _ _ c.requires c.loop-place-test.true c.index-projections-place.is c.in_ok-append_projection.ensures
    c.loop-place.invariant
