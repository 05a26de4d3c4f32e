use Rattle.std.proofs.Common.{◌≤◌, ◌-◌, ◌↔◌, length, drop}
use Rattle.mt_defs.specs.Projections.{FoldsRows}
use Rattle.mt_sort.specs.References.{rows_in}
use Rattle.mt_proj.proofs.grouped.runs_stand.Given as goal

-- what is left decides
abbrev pub invariant-loop-start : goal.invariant-loop-start
invariant-loop-start l = record {
  within : l.start ≤ length l.rows;
  stored_within : l.stored_start ≤ length l.stored;
  ahead : FoldsRows l.columns l.aggs (rows_in (drop l.start l.rows)) (rows_in (drop l.stored_start l.stored))
      ↔ FoldsRows l.columns l.aggs (rows_in l.rows) (rows_in l.stored);
}

abbrev pub decreases-loop-start : goal.decreases-loop-start
decreases-loop-start l = length l.rows - l.start
