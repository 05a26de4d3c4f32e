use Rattle.std.proofs.Common.{◌≡◌, map}
use Rattle.mt_blocks.specs.Rows.{indexes}
use Rattle.mt_blocks.specs.Sorting.{place_at}
use Rattle.mt_blocks.proofs.sort.places_of.Given as goal

abbrev pub invariant-loop-index : goal.invariant-loop-index
invariant-loop-index l = l.places.items ≡ map (place_at l.columns) (indexes l.index)
