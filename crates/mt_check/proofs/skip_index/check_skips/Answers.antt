use Rattle.std.proofs.lemmas.Result.{err_from_is_err_and}
use Rattle.mt_defs.specs.Folder.{folder_of}
use Rattle.mt_check.specs.FolderChecks.{skip_checks}
use Rattle.mt_check.proofs.GroupLemmas.{each_done, each_fails, each_holds}
use Rattle.mt_check.proofs.skip_index.check_skips.Goals as goal

pub returns-in_err-check_skip : goal.returns-in_err-check_skip
returns-in_err-check_skip c =
    let p = err_from_is_err_and c.from_residual.result c.from_residual.ensures.1 in
    rw (p.1, p.2)
    (each_fails (skip_checks c.args.table.now (folder_of c.args.files.now) c.args.accepted.now) c.as_slice-skip-items.result.now c.loop-skip.skip-index c.skip-item.result _ c.in_err-check_skip.field-0.0
    c.loop-skip.invariant c.loop-skip-test.true c.skip-item.is c.in_err-check_skip.ensures)

pub loop-skip-preserved : goal.loop-skip-preserved
loop-skip-preserved c =
    each_holds (skip_checks c.args.table.now (folder_of c.args.files.now) c.args.accepted.now) c.as_slice-skip-items.result.now c.loop-skip.skip-index c.skip-item.result _ c.loop-skip.invariant
    c.loop-skip-test.true c.skip-item.is c.in_ok-check_skip.ensures

pub returns : goal.returns
returns c = each_done (skip_checks c.args.table.now (folder_of c.args.files.now) c.args.accepted.now) c.as_slice-skip-items.result.now c.loop-skip.skip-index _ c.loop-skip.invariant c.loop-skip-test.false
