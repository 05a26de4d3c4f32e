use Rattle.std.proofs.Common.{◌≡◌, ◌++◌, take, map}
use Rattle.mt_table.specs.Stored.{expression_column}
use Rattle.mt_table.proofs.definition.Table.key_columns.Given as goal

abbrev pub invariant-loop-expression : goal.invariant-loop-expression
invariant-loop-expression l = l.places ≡ l.self.sort ++ map expression_column (take l.expression-index l.self.partition)
