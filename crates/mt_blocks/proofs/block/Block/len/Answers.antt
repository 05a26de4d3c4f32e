use Rattle.mt_blocks.proofs.BlockLemmas.{count_is}
use Rattle.mt_blocks.proofs.block.Block.len.Goals as goal

pub returns : goal.returns
returns c = count_is c.self.inside.columns.items c.self.inside.count c.args.self.now c.self.view_is
