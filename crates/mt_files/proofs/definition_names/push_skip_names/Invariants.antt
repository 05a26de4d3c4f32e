use Rattle.std.proofs.Common.{◌≡◌, ◌++◌, take}
use Rattle.std.specs.List.{flat_map}
use Rattle.mt_files.specs.OwnNames.{skip_names_in}
use Rattle.mt_files.proofs.definition_names.push_skip_names.Given as goal

abbrev pub invariant-loop-skip : goal.invariant-loop-skip
invariant-loop-skip l = l.names.items ≡ l.initial.names.items ++ flat_map (skip_names_in l.compact) (take l.skip-index l.skip-items)
