use Rattle.std.proofs.Common.{◌≡◌, take, map}
use Rattle.mt_table.specs.Stored.{index_in}
use Rattle.mt_table.proofs.stored.places_among.Given as goal

abbrev pub invariant-loop-column : goal.invariant-loop-column
invariant-loop-column l = l.places ≡ map (index_in l.stored) (take l.column-index l.columns)
