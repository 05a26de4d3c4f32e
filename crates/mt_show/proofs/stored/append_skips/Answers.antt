use Rattle.mt_show.specs.Text.{skip_line}
use Rattle.mt_show.proofs.TextLemmas.{pairs_step}
use Rattle.mt_show.proofs.stored.append_skips.Goals as goal

pub loop-place-preserved : goal.loop-place-preserved
loop-place-preserved c =
    pairs_step skip_line c.args.skips.now c.args.there.now c.loop-place.place c.index-skips-place.result _ c.loop-place.out _ _ c.requires c.loop-place-test.true c.index-skips-place.is c.in_ok-append_skip.ensures
    c.loop-place.invariant
