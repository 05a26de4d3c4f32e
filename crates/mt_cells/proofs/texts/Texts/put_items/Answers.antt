use Rattle.std.proofs.Common.{◌≤◌, ◌<◌, [], length, arith}
use Rattle.mt_cells.specs.Pieces.{text_item}
use Rattle.mt_cells.proofs.CutLemmas.{put_more}
use Rattle.mt_cells.proofs.texts.Texts.put_items.Goals as goal

pub loop-index-preserved : goal.loop-index-preserved
loop-index-preserved c =
    let order : c.args.from ≤ c.loop-index.index = omega arith in
    let there : c.loop-index.index < length c.args.self.now = omega arith in
    put_more text_item c.args.from c.loop-index.index c.args.self.now c.args.out.now c.loop-index.out c.put_text.new.out c.get.result.now [] order there c.loop-index.invariant c.in_ok-put_text.ensures c.get.ensures
