use Rattle.std.proofs.Common.{◌≡◌, drop}
use Rattle.mt_check.specs.PartitionReading.{is_other, other_partition}
use Rattle.mt_definition.specs.RowsReading.{first_index}
use Rattle.mt_definition.proofs.RowLemmas.{later_by}
use Rattle.mt_check.proofs.partition.other_partition.Given as goal

-- what is left decides
abbrev pub invariant-loop-index : goal.invariant-loop-index
invariant-loop-index l = other_partition l.table l.rows ≡ later_by l.index (first_index (is_other l.table l.rows) (drop l.index l.rows))
