use Rattle.mt_blocks.proofs.BlockLemmas.{have_rows, rows_again}
use Rattle.mt_blocks.proofs.block.Block.columns.Goals as goal

pub returns-clause-have : goal.returns-clause-have
returns-clause-have c = rw c.as_slice.ensures.value (have_rows c.self.inside.columns.items c.self.inside.count c.args.self.now c.self.view_is c.self.invariant)

pub returns-clause-rows : goal.returns-clause-rows
returns-clause-rows c = rw c.as_slice.ensures.value (rows_again c.self.inside.columns.items c.self.inside.count c.args.self.now c.self.view_is)
