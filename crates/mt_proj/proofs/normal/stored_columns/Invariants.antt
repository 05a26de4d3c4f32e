use Rattle.std.proofs.Common.{◌≡◌, ◌==◌}
use Rattle.std.specs.Prelude.{filter}
use Rattle.std.specs.List.{list_any, range_with_len}
use Rattle.mt_proj.proofs.normal.stored_columns.Given as goal

abbrev pub invariant-loop-column : goal.invariant-loop-column
invariant-loop-column l = l.stored.items ≡ filter (λ i. list_any (λ j. j == i) l.columns) (range_with_len 0 l.column)
