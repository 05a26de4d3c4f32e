use Rattle.std.proofs.Common.{◌≤◌, ◌<◌, length, arith}
use Rattle.mt_cells.proofs.CutLemmas.{appended_more}
use Rattle.mt_cells.proofs.sizes.Sizes.append.Goals as goal

pub loop-index-preserved : goal.loop-index-preserved
loop-index-preserved c =
    let order : c.args.from ≤ c.loop-index.index = omega arith in
    let there : c.loop-index.index < length c.args.other.now = omega arith in
    appended_more c.args.from c.loop-index.index c.args.other.now c.args.self.now c.loop-index.self c.push.new.self c.get.result 0 order there c.loop-index.invariant c.in_ok-push.ensures.ok c.get.ensures
