use Rattle.std.proofs.Common.{◌≡◌, take}
use Rattle.std.specs.List.{filter_map}
use Rattle.mt_table_names.specs.Places.{aggregate_of}
use Rattle.mt_table_names.specs.NameSets.{listed}
use Rattle.mt_table_names.proofs.names.Names.aggregates.Given as goal

abbrev pub invariant-loop-item : goal.invariant-loop-item
invariant-loop-item l = l.aggregates ≡ filter_map (aggregate_of (listed l.self)) (take l.item-index l.items)
