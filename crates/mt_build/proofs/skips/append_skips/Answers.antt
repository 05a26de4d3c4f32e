use Rattle.mt_defs.specs.WrittenSkips.{skip_files}
use Rattle.mt_build.proofs.AppendLemmas.{files_step}
use Rattle.mt_build.proofs.SkipLemmas.{skip_at}
use Rattle.mt_build.proofs.skips.append_skips.Goals as goal

pub append_skip-requires-clause-skip : goal.append_skip-requires-clause-skip
append_skip-requires-clause-skip c =
    skip_at c.args.table.now c.as_slice-skip-items.result.now c.loop-skip.skip-index c.skip-item.result c.as_slice-skip-items.ensures c.loop-skip-test.true c.skip-item.is

pub loop-skip-preserved : goal.loop-skip-preserved
loop-skip-preserved c =
    files_step (skip_files c.args.table.now c.args.rows.now) c.args.files.now.items c.loop-skip.files.items c.append_skip.new.files.items c.as_slice-skip-items.result.now c.loop-skip.skip-index c.skip-item.result c.skip-item.result
    c.loop-skip-test.true c.skip-item.is c.loop-skip.invariant c.in_ok-append_skip.ensures
