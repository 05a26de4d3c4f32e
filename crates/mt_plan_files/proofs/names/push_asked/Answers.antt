use Rattle.mt_plan_files.specs.Planned.{asked_names}
use Rattle.mt_plan_files.proofs.NameLemmas.{flat_more}
use Rattle.mt_plan_files.proofs.names.push_asked.Goals as goal

pub loop-skip-preserved : goal.loop-skip-preserved
loop-skip-preserved c =
    flat_more (asked_names c.args.compact c.args.cond.now) c.as_slice-skip-items.result.now c.loop-skip.skip-index c.skip-item.result c.args.names.now.items c.loop-skip.names.items c.push_index.new.names.items c.loop-skip-test.true
    c.skip-item.is c.loop-skip.invariant c.in_ok-push_index.ensures
