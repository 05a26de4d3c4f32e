use Rattle.std.proofs.lemmas.Result.{err_from_is_err_and}
use Rattle.mt_check.proofs.FolderLemmas.{projection_fails, projection_holds, projections_done}
use Rattle.mt_check.proofs.projection.check_projections.Goals as goal

pub returns-in_err-check_projection : goal.returns-in_err-check_projection
returns-in_err-check_projection c =
    let p = err_from_is_err_and c.from_residual.result c.from_residual.ensures.1 in
    rw (p.1, p.2)
    (projection_fails c.args.table.now c.args.accepted.now c.args.folders.now c.loop-place.place c.index-folders-place.result _ c.in_err-check_projection.field-0.0 c.loop-place.invariant c.requires.each c.loop-place-test.true
    c.index-folders-place.is c.in_err-check_projection.ensures)

pub loop-place-preserved : goal.loop-place-preserved
loop-place-preserved c =
    projection_holds c.args.table.now c.args.accepted.now c.args.folders.now c.loop-place.place c.index-folders-place.result _ c.loop-place.invariant c.requires.each c.loop-place-test.true c.index-folders-place.is
    c.in_ok-check_projection.ensures

pub returns : goal.returns
returns c = projections_done c.args.table.now c.args.accepted.now c.args.folders.now c.loop-place.place _ c.loop-place.invariant c.loop-place-test.false
