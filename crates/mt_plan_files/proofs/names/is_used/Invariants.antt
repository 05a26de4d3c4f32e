use Rattle.std.proofs.Common.{◌≡◌, ◌==◌, drop, map}
use Rattle.std.specs.List.{list_any}
use Rattle.mt_defs.specs.Partition.{expression_column}
use Rattle.mt_plan_files.proofs.names.is_used.Given as goal

-- what is left decides
abbrev pub invariant-loop-expression : goal.invariant-loop-expression
invariant-loop-expression l = list_any (λ i. i == l.place) (map expression_column (drop l.expression-index l.partition)) ≡ list_any (λ i. i == l.place) (map expression_column l.partition)
