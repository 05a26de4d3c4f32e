use Rattle.std.proofs.Common.{◌≡◌, drop}
use Rattle.mt_table_rules.specs.Columns.{columns_of}
use Rattle.mt_table_rules.proofs.ColumnLemmas.{with_front}
use Rattle.mt_table_rules.proofs.columns.read_columns.Given as goal

abbrev pub invariant-loop-element : goal.invariant-loop-element
invariant-loop-element l = with_front l.columns (columns_of (drop l.element-index l.elements)) ≡ columns_of l.elements
