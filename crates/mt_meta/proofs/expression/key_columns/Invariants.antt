use Rattle.std.proofs.Common.{◌≡◌, ◌==◌, map, take}
use Rattle.mt_defs.specs.Lists.{distinct_by}
use Rattle.mt_defs.specs.Partition.{expression_column}
use Rattle.mt_meta.proofs.expression.key_columns.Given as goal

abbrev pub invariant-loop-expression : goal.invariant-loop-expression
invariant-loop-expression l = l.columns ≡ distinct_by (λ i j. i == j) (map expression_column (take l.expression-index l.partition))
