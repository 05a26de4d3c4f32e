use Rattle.std.proofs.Common.{length, take, drop, ◌-◌, ◌≤◌}
use Rattle.mt_codec.specs.ColumnReading.{null_front}
use Rattle.mt_codec.proofs.LoopLemmas.{Comes}
use Rattle.mt_codec.proofs.nulls.nulls_in.Given as goal

abbrev pub invariant-loop-read : goal.invariant-loop-read
invariant-loop-read l = record {
  comes : Comes null_front l.count l.bytes (take l.read l.bytes) (drop l.read l.bytes);
  within : l.read ≤ length l.bytes;
}

abbrev pub decreases-loop-read : goal.decreases-loop-read
decreases-loop-read l = l.count - l.read
