use Rattle.std.proofs.Common.{◌≡◌, false, take}
use Rattle.std.specs.List.{list_any}
use Rattle.mt_command.specs.Targets.{has_many_cells}
use Rattle.mt_command.proofs.cells.few_cells.Given as goal

-- none so far has too many
abbrev pub invariant-loop-projection : goal.invariant-loop-projection
invariant-loop-projection l = list_any (has_many_cells l.table l.rows) (take l.projection l.table.projections) ≡ false
