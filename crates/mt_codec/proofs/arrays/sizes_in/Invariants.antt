use Rattle.std.proofs.Common.{length, ◌-◌}
use Rattle.mt_codec.specs.ColumnReading.{size_front}
use Rattle.mt_codec.proofs.LoopLemmas.{Comes}
use Rattle.mt_codec.proofs.arrays.sizes_in.Given as goal

abbrev pub invariant-loop-rest : goal.invariant-loop-rest
invariant-loop-rest l = Comes size_front l.count l.bytes l.sizes l.rest

abbrev pub decreases-loop-rest : goal.decreases-loop-rest
decreases-loop-rest l = l.count - length l.sizes
