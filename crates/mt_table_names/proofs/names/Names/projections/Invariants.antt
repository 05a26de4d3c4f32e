use Rattle.std.proofs.Common.{◌≡◌, take}
use Rattle.std.specs.List.{filter_map}
use Rattle.mt_table_names.specs.Places.{projection_in}
use Rattle.mt_table_names.specs.NameSets.{listed}
use Rattle.mt_table_names.proofs.names.Names.projections.Given as goal

abbrev pub invariant-loop-element : goal.invariant-loop-element
invariant-loop-element l = l.projections ≡ filter_map (projection_in (listed l.self)) (take l.element-index l.elements)
