use Rattle.std.proofs.Common.{◌≡◌, take, drop}
use Rattle.mt_wide.specs.WideReading.{same_rows}
use Rattle.mt_wide.proofs.column.check_granules.Given as goal

abbrev pub invariant-loop-granule : goal.invariant-loop-granule
invariant-loop-granule l = record {
  left : same_rows l.marks_name l.granule (drop l.granule l.known) (drop l.granule l.rows) ≡ same_rows l.marks_name 0 l.known l.rows;
  same : take l.granule l.rows ≡ take l.granule l.known;
}
