use Rattle.std.proofs.Common.{◌≡◌}
use Rattle.mt_table.specs.Stored.{columns_below}
use Rattle.mt_table.proofs.stored.places_below.Given as goal

abbrev pub invariant-loop-place : goal.invariant-loop-place
invariant-loop-place l = l.places ≡ columns_below l.place l.chosen
