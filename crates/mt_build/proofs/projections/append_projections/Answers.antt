use Rattle.std.proofs.Common.{◌<◌, refl, subst}
use Rattle.mt_table.specs.Stored.{no_projection, projection_at}
use Rattle.mt_defs.specs.Writer.{projection_files}
use Rattle.mt_build.proofs.AppendLemmas.{files_step}
use Rattle.mt_build.proofs.projections.append_projections.Goals as goal

pub loop-projection-preserved : goal.loop-projection-preserved
loop-projection-preserved c =
    let table = c.args.table.now in
    files_step (projection_files table c.args.rows.now) c.args.files.now.items c.loop-projection.files.items c.append_projection.new.files.items table.projections c.loop-projection.projection (projection_at table c.loop-projection.projection) no_projection
    (subst (λ n. c.loop-projection.projection < n) c.len-projection-end.ensures c.loop-projection-test.true) refl c.loop-projection.invariant c.in_ok-append_projection.ensures
