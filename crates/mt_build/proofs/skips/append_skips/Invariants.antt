use Rattle.std.proofs.Common.{◌≡◌, ◌++◌, take}
use Rattle.std.specs.List.{flat_map}
use Rattle.mt_defs.specs.WrittenSkips.{skip_files}
use Rattle.mt_build.proofs.skips.append_skips.Given as goal

abbrev pub invariant-loop-skip : goal.invariant-loop-skip
invariant-loop-skip l = l.files.items ≡ l.initial.files.items ++ flat_map (skip_files l.table l.rows) (take l.skip-index l.skip-items)
