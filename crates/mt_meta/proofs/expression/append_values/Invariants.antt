use Rattle.std.proofs.Common.{◌≡◌, ◌++◌, take}
use Rattle.std.specs.List.{flat_map}
use Rattle.mt_defs.specs.Partition.{expression_bytes}
use Rattle.mt_meta.proofs.expression.append_values.Given as goal

abbrev pub invariant-loop-expression : goal.invariant-loop-expression
invariant-loop-expression l = l.out ≡ l.initial.out ++ flat_map (expression_bytes l.columns l.row) (take l.expression-index l.partition)
