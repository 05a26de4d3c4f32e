use Rattle.std.proofs.Common.{◌≡◌, ◌++◌, length, drop}
use Rattle.mt_plain.specs.NumberRows.{HasNumbers, column_data, column_marks_from}
use Rattle.mt_plain.proofs.columns.stream_of.Given as goal

abbrev pub invariant-loop-count : goal.invariant-loop-count
invariant-loop-count l = record {
  framed : l.data ++ column_data l.column_index (drop l.count-index l.granules) l.rest ≡ column_data l.column_index l.granules l.rows;
  marked : l.marks ++ column_marks_from l.column_index (length l.data) (drop l.count-index l.granules) l.rest ≡ column_marks_from l.column_index 0 l.granules l.rows;
  numbers : HasNumbers l.column_index l.rest;
}
