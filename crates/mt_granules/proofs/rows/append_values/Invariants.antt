use Rattle.std.proofs.Common.{◌≡◌, ◌+◌, ◌++◌, length, take, drop}
use Rattle.std.specs.Vec.Iter.{into_iter_items}
use Rattle.mt_granules.specs.ColumnRows.{with_column}
use Rattle.mt_granules.proofs.rows.append_values.Given as goal

abbrev pub invariant-loop-value : goal.invariant-loop-value
invariant-loop-value l = record {
  whole : into_iter_items l.initial.value-iterator ≡ l.yielded ++ into_iter_items l.value-iterator;
  done : l.row ≡ l.first + length l.yielded;
  rows : l.rows.items ≡ take l.first l.initial.rows.items ++ with_column (drop l.first l.initial.rows.items) l.yielded;
}
