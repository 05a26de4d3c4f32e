use Rattle.std.proofs.Common.{◌≡◌, ◌++◌, length}
use Rattle.std.specs.Vec.Iter.{into_iter_items}
use Rattle.mt_granules.specs.ColumnRows.{all_values, with_column}
use Rattle.mt_granules.proofs.rows.append_column.Given as goal

abbrev pub invariant-loop-granule : goal.invariant-loop-granule
invariant-loop-granule l = record {
  whole : into_iter_items l.initial.granule-iterator ≡ l.yielded ++ into_iter_items l.granule-iterator;
  done : l.first ≡ length (all_values l.yielded);
  rows : l.rows.items ≡ with_column l.initial.rows.items (all_values l.yielded);
}
