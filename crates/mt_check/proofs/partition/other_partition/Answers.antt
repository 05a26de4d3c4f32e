use Rattle.mt_check.proofs.PartitionLemmas.{other_here, other_later}
use Rattle.mt_check.proofs.partition.other_partition.Goals as goal

pub returns-then-not-same_partition : goal.returns-then-not-same_partition
returns-then-not-same_partition c =
    other_here c.args.table.now c.args.rows.now c.loop-index.index c.index-rows-index.result c.index-rows-0.result c.same_partition.result c.loop-index.invariant c.loop-index-test.true c.index-rows-index.is c.index-rows-0.is
    c.same_partition.ensures c.if-not-same_partition.true

pub loop-index-preserved : goal.loop-index-preserved
loop-index-preserved c =
    other_later c.args.table.now c.args.rows.now c.loop-index.index c.index-rows-index.result c.index-rows-0.result c.same_partition.result c.loop-index.invariant c.loop-index-test.true c.index-rows-index.is c.index-rows-0.is
    c.same_partition.ensures c.if-not-same_partition.false
