use Rattle.mt_meta.proofs.PartitionLaw.{partition_law}
use Rattle.mt_meta.proofs.law.written_partitions_are_compared.Goals as goal

pub returns : goal.returns
returns c = partition_law
