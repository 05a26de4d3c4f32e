use Rattle.mt_blocks.specs.Rows.{columns_in}
use Rattle.mt_blocks.proofs.BlockLemmas.{all_below, gathered_at, have_gathered}
use Rattle.mt_blocks.proofs.block.Block.gather.Goals as goal

pub gather_columns-requires-clause-there : goal.gather_columns-requires-clause-there
gather_columns-requires-clause-there c = all_below c.self.inside.columns.items c.self.inside.count c.args.self.now c.self.view_is c.args.order.now c.requires

pub invariant_of-result : goal.invariant_of-result
invariant_of-result c = have_gathered c.in_ok-columns.columns.items (columns_in c.self.inside.columns.items) c.args.order.now (rw c.as_slice.ensures.value at c.in_ok-columns.ensures)

pub returns : goal.returns
returns c = gathered_at c.self.inside.columns.items c.self.inside.count c.args.self.now c.self.view_is c.in_ok-columns.columns.items c.args.order.now c.requires (rw c.as_slice.ensures.value at c.in_ok-columns.ensures)
