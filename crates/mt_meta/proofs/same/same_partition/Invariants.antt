use Rattle.std.specs.Prelude.{All, take}
use Rattle.mt_meta.specs.PartitionKeys.{HaveSameValue}
use Rattle.mt_meta.proofs.same.same_partition.Given as goal

abbrev pub invariant-loop-expression : goal.invariant-loop-expression
invariant-loop-expression l = All (HaveSameValue l.a l.b) (take l.expression-index l.table.partition)
