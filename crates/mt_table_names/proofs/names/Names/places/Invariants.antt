use Rattle.std.proofs.Common.{◌≡◌, map, take}
use Rattle.mt_table_names.specs.Sentence.{place_in}
use Rattle.mt_table_names.specs.NameSets.{listed}
use Rattle.mt_table_names.proofs.names.Names.places.Given as goal

abbrev pub invariant-loop-name : goal.invariant-loop-name
invariant-loop-name l = l.places ≡ map (place_in (listed l.self)) (take l.name-index l.names)
