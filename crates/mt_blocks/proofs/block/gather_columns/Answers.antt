use Rattle.std.proofs.Common.{◌<◌, length, arith}
use Rattle.mt_blocks.proofs.BlockLemmas.{columns_more}
use Rattle.mt_blocks.proofs.block.gather_columns.Goals as goal

pub loop-column-preserved : goal.loop-column-preserved
loop-column-preserved c =
    let there : c.loop-column.column-index < length c.args.columns.now = omega (arith, c.loop-column-test.true) in
    columns_more c.args.columns.now c.loop-column.gathered.items c.push.new.self.items c.args.order.now c.loop-column.column-index c.column-item.result c.in_ok-gather.field-0 there c.column-item.is c.loop-column.invariant c.in_ok-push.ensures.items c.in_ok-gather.ensures.values
