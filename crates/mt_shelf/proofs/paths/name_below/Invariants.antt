use Rattle.std.proofs.Common.{◌≡◌, length}
use Rattle.mt_shelf.specs.Paths.{name_below}
use Rattle.mt_shelf.proofs.paths.name_below.Given as goal

abbrev pub invariant-loop-part_left : goal.invariant-loop-part_left
invariant-loop-part_left l = name_below l.part_left l.path_left ≡ name_below l.part l.path

abbrev pub decreases-loop-part_left : goal.decreases-loop-part_left
decreases-loop-part_left l = length l.part_left
