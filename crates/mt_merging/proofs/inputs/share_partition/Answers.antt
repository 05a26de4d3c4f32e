use Rattle.mt_build.proofs.SkipLemmas.{partition_keys}
use Rattle.mt_merging.proofs.RowLemmas.{together_is}
use Rattle.mt_merging.proofs.inputs.share_partition.Goals as goal

pub same_partition-requires-clause-key : goal.same_partition-requires-clause-key
same_partition-requires-clause-key c = partition_keys c.args.table.now

pub returns-in-Some-Some : goal.returns-in-Some-Some
returns-in-Some-Some c =
    together_is c.args.table.now c.in-Some-Some.a.now c.in-Some-Some.b.now c.args.one.now c.args.other.now c.same_partition.result c.in-Some-Some.ensures.value c.in-Some-Some.ensures'.value c.same_partition.ensures
