use Rattle.mt_show.proofs.SizeLemmas.{one_longer, sizes_step}
use Rattle.mt_show.proofs.shape.projection_sizes.Goals as goal

pub loop-place-preserved : goal.loop-place-preserved
loop-place-preserved c =
    record {
      sizes = sizes_step c.args.table.now c.args.folders.now c.loop-place.place c.index-folders-place.result c.in_ok-projection_size.field-0 c.loop-place.sizes _ _ c.requires c.loop-place-test.true
          c.index-folders-place.is c.in_ok-projection_size.ensures c.in_ok-push.ensures.ok c.loop-place.invariant.sizes;
      long = one_longer c.loop-place.sizes _ c.in_ok-projection_size.field-0 c.loop-place.place c.in_ok-push.ensures.ok c.loop-place.invariant.long;
    }
