use Rattle.std.proofs.Common.{◌≡◌, ◌++◌, map, take}
use Rattle.mt_defs.specs.Partition.{minmax_name, expression_column}
use Rattle.mt_strays.proofs.known_names.push_minmax_names.Given as goal

abbrev pub invariant-loop-expression : goal.invariant-loop-expression
invariant-loop-expression l = l.names.items ≡ l.initial.names.items ++ map (λ expression. minmax_name l.table (expression_column expression)) (take l.expression-index l.expression-items)
