use Rattle.std.proofs.Common.{◌≡◌, ◌++◌, ◌≤◌, length, ◌-◌}
use Rattle.std.specs.Vec.Iter.{into_iter_items}
use Rattle.mt_codec.proofs.arrays.take_elements.Given as goal

abbrev pub invariant-loop-elements : goal.invariant-loop-elements
invariant-loop-elements l = record {
  moved : l.taken ++ into_iter_items l.elements ≡ into_iter_items l.initial.elements;
  few : length l.taken ≤ l.count;
}

abbrev pub decreases-loop-elements : goal.decreases-loop-elements
decreases-loop-elements l = l.count - length l.taken
