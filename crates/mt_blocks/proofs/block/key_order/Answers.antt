use Rattle.mt_blocks.specs.Rows.{columns_in}
use Rattle.mt_blocks.proofs.BlockLemmas.{in_order, ordered}
use Rattle.mt_blocks.proofs.block.key_order.Goals as goal

pub returns-then-never_falls : goal.returns-then-never_falls
returns-then-never_falls c =
    in_order (columns_in c.args.columns.now) c.args.count c.args.sort.now c.in_ok-keys.keys.items c.in_ok-keys.ensures (rw c.as_slice.ensures.value at c.never_falls.ensures c.if-never_falls.true)

pub returns : goal.returns
returns c =
    ordered (columns_in c.args.columns.now) c.args.count c.args.sort.now c.in_ok-keys.keys.items c.in_ok-keys.ensures c.in_ok-sorted_order.field-0.items (rw c.as_slice-2.ensures.value at c.in_ok-sorted_order.ensures.sorted) c.in_ok-sorted_order.ensures.within
