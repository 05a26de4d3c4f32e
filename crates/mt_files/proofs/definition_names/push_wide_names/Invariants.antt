use Rattle.std.proofs.Common.{◌≡◌, ◌++◌, take}
use Rattle.std.specs.List.{flat_map}
use Rattle.mt_defs.specs.Part.{wide_names}
use Rattle.mt_files.proofs.definition_names.push_wide_names.Given as goal

abbrev pub invariant-loop-column : goal.invariant-loop-column
invariant-loop-column l = l.names.items ≡ l.initial.names.items ++ flat_map wide_names (take l.column-index l.columns)
