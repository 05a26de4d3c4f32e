use Rattle.std.proofs.Common.{◌≡◌, length}
use Rattle.mt_table.specs.Names.{places_differ}
use Rattle.mt_meta.proofs.order.places_differ.Given as goal

-- what is left decides
abbrev pub invariant-loop-place : goal.invariant-loop-place
invariant-loop-place l = places_differ l.rest ≡ places_differ l.order

abbrev pub decreases-loop-place : goal.decreases-loop-place
decreases-loop-place l = length l.rest
