use Rattle.std.proofs.Common.{◌≡◌, map}
use Rattle.std.specs.List.{range_with_len}
use Rattle.mt_definition.specs.ListedPlaces.{listed_place}
use Rattle.mt_definition.proofs.whole_rows.places_in.Given as goal

abbrev pub invariant-loop-column_index : goal.invariant-loop-column_index
invariant-loop-column_index l = l.places.items ≡ map (listed_place l.order) (range_with_len 0 l.column_index)
