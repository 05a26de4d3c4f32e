use Rattle.std.proofs.Common.{◌≡◌, map, take}
use Rattle.mt_table_names.specs.Places.{expression_of}
use Rattle.mt_table_names.specs.NameSets.{listed}
use Rattle.mt_table_names.proofs.names.Names.expressions.Given as goal

abbrev pub invariant-loop-expression : goal.invariant-loop-expression
invariant-loop-expression l = l.expressions ≡ map (expression_of (listed l.self)) (take l.expression-index l.partition)
