use Rattle.mt_files.proofs.TableLemmas.{partition_checked}
use Rattle.mt_check.proofs.PartitionBytes.{partition_are_bytes}
use Rattle.mt_check.proofs.PartitionLaw.{partition_step}
use Rattle.mt_check.proofs.law.partitions_are_checked.Goals as goal

pub returns : goal.returns
returns c = λ table folder accepted some fit none.
    partition_step table folder accepted (c.written_partitions_are_compared.ensures table accepted.rows folder some) some (partition_are_bytes table accepted.rows (partition_checked table) fit) none
