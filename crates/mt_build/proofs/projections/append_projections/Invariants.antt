use Rattle.std.proofs.Common.{◌≡◌, ◌++◌, take}
use Rattle.std.specs.List.{flat_map}
use Rattle.mt_defs.specs.Writer.{projection_files}
use Rattle.mt_build.proofs.projections.append_projections.Given as goal

abbrev pub invariant-loop-projection : goal.invariant-loop-projection
invariant-loop-projection l = l.files.items ≡ l.initial.files.items ++ flat_map (projection_files l.table l.rows) (take l.projection l.table.projections)
