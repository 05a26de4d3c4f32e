use Rattle.std.proofs.Common.{◌≡◌, map}
use Rattle.mt_blocks.specs.declared.sort.Place.{Place}
use Rattle.mt_blocks.proofs.sort.indexes_of.Given as goal

abbrev pub invariant-loop-index : goal.invariant-loop-index
invariant-loop-index l = l.order.items ≡ map (λ (p : Place). p.index) l.yielded
