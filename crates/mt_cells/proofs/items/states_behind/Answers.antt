use Rattle.std.proofs.Common.{◌≤◌, ◌<◌, length, refl, arith}
use Rattle.mt_cells.proofs.CutLemmas.{appended_more}
use Rattle.mt_cells.proofs.items.states_behind.Goals as goal

pub loop-index-preserved : goal.loop-index-preserved
loop-index-preserved c =
    let order : c.args.from ≤ c.loop-index.index = omega arith in
    let there : c.loop-index.index < length c.args.more.now = omega arith in
    appended_more c.args.from c.loop-index.index c.args.more.now c.args.states c.loop-index.states c.push.new.self _ _ order there c.loop-index.invariant c.in_ok-push.ensures.ok refl
