use Rattle.std.proofs.Common.{◌≡◌, length}
use Rattle.mt_shelf.specs.Paths.{is_at_or_below}
use Rattle.mt_shelf.proofs.paths.is_at_or_below.Given as goal

abbrev pub invariant-loop-part_left : goal.invariant-loop-part_left
invariant-loop-part_left l = is_at_or_below l.part_left l.path_left ≡ is_at_or_below l.part l.path

abbrev pub decreases-loop-part_left : goal.decreases-loop-part_left
decreases-loop-part_left l = length l.part_left
