use Rattle.std.proofs.Common.{◌≡◌, ◌++◌, drop}
use Rattle.std.specs.Vec.Iter.{into_iter_items}
use Rattle.mt_codec.specs.ColumnReading.{arrays_from}
use Rattle.mt_codec.proofs.arrays.arrays_from.Given as goal

abbrev pub invariant-loop-size : goal.invariant-loop-size
invariant-loop-size l = l.arrays ++ arrays_from (drop l.size-index l.sizes) (into_iter_items l.elements) ≡ arrays_from l.sizes l.fn.elements
