use Rattle.std.proofs.Common.{take}
use Rattle.mt_table_names.specs.SentenceNames.{AreOfPartition}
use Rattle.mt_table_names.proofs.sentence.partition_names.Given as goal

abbrev pub invariant-loop-expression : goal.invariant-loop-expression
invariant-loop-expression l = AreOfPartition l.names (take l.expression-index l.partition)
