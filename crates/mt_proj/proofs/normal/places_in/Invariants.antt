use Rattle.std.proofs.Common.{◌≡◌, take, map}
use Rattle.mt_defs.specs.Projections.{index_in}
use Rattle.mt_proj.proofs.normal.places_in.Given as goal

abbrev pub invariant-loop-column : goal.invariant-loop-column
invariant-loop-column l = l.places.items ≡ map (index_in l.stored) (take l.column-index l.columns)
