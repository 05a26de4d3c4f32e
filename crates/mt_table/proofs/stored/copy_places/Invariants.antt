use Rattle.std.proofs.Common.{◌≡◌, take}
use Rattle.mt_table.proofs.stored.copy_places.Given as goal

abbrev pub invariant-loop-place : goal.invariant-loop-place
invariant-loop-place l = l.copied ≡ take l.place-index l.places
