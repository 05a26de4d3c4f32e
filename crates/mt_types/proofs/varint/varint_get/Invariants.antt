use Rattle.std.proofs.Common.{◌≡◌, ◌^◌, ◌<◌, ◌≤◌, length}
use Rattle.mt_types.proofs.Leb128Lemmas.{GoesOn, ComesFrom}
use Rattle.mt_types.proofs.varint.varint_get.Given as goal

abbrev pub invariant-loop-i : goal.invariant-loop-i
invariant-loop-i l = record {
  weight : l.weight ≡ 128 ^ l.i;
  below : l.value < l.weight;
  within : l.i ≤ length l.bytes;
  on : GoesOn l.value l.weight l.i l.bytes;
  from : ComesFrom l.value l.weight l.i l.bytes;
}
