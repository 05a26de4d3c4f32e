use Rattle.std.proofs.Common.{◌≡◌, take}
use Rattle.std.specs.List.{filter_map}
use Rattle.mt_table_names.specs.Places.{skip_of}
use Rattle.mt_table_names.specs.NameSets.{listed}
use Rattle.mt_table_names.proofs.names.Names.skips.Given as goal

abbrev pub invariant-loop-element : goal.invariant-loop-element
invariant-loop-element l = l.skips ≡ filter_map (skip_of (listed l.self)) (take l.element-index l.elements)
