use Rattle.std.proofs.Common.{◌≡◌, ◌++◌, ◌∷◌, [], take}
use Rattle.std.specs.List.{flat_map}
use Rattle.mt_defs.specs.FileNames.{data_name, marks_name}
use Rattle.mt_files.proofs.definition_names.push_column_names.Given as goal

abbrev pub invariant-loop-stream : goal.invariant-loop-stream
invariant-loop-stream l = l.names.items ≡ l.initial.names.items ++ flat_map (λ name. data_name name ∷ marks_name name ∷ []) (take l.stream-index l.stream-items)
