use Rattle.std.proofs.Common.{◌≡◌, ◌++◌, take, drop, length}
use Rattle.mt_codec.specs.ColumnReading.{nulled}
use Rattle.mt_codec.proofs.nulls.nulled.Given as goal

abbrev pub invariant-loop-i : goal.invariant-loop-i
invariant-loop-i l = record {
  done : l.values.items ≡ nulled (take l.i l.nulls) (take l.i l.fn.values) ++ drop l.i l.fn.values;
  long : length l.values.items ≡ length l.nulls;
}
