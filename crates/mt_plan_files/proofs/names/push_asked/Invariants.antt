use Rattle.std.proofs.Common.{◌≡◌, ◌++◌, take}
use Rattle.std.specs.List.{flat_map}
use Rattle.mt_plan_files.specs.Planned.{asked_names}
use Rattle.mt_plan_files.proofs.names.push_asked.Given as goal

abbrev pub invariant-loop-skip : goal.invariant-loop-skip
invariant-loop-skip l = l.names.items ≡ l.initial.names.items ++ flat_map (asked_names l.compact l.cond) (take l.skip-index l.skip-items)
