use Rattle.std.proofs.Common.{◌≡◌, length, map, take, drop}
use Rattle.mt_definition.specs.RowsReading.{whole_row}
use Rattle.mt_definition.proofs.whole_rows.whole_rows.Given as goal

abbrev pub invariant-loop-index : goal.invariant-loop-index
invariant-loop-index l = record {
  done : take l.index l.whole.items ≡ map (whole_row l.columns l.order) (take l.index l.fn.rows);
  left : drop l.index l.whole.items ≡ drop l.index l.fn.rows;
  long : length l.whole.items ≡ length l.fn.rows;
}
