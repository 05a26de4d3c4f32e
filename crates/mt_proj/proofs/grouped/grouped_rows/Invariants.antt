use Rattle.std.proofs.Common.{◌≡◌, ◌≤◌, ◌-◌, ◌++◌, length, drop}
use Rattle.mt_sort.specs.References.{rows_in}
use Rattle.mt_proj.specs.Runs.{rows_by_key}
use Rattle.mt_proj.proofs.grouped.grouped_rows.Given as goal

-- what is made, and what is left to make
abbrev pub invariant-loop-start : goal.invariant-loop-start
invariant-loop-start l = record {
  within : l.start ≤ length l.sorted;
  ahead : l.made.items ++ rows_by_key l.columns l.aggs (rows_in (drop l.start l.sorted)) ≡ rows_by_key l.columns l.aggs (rows_in l.sorted);
}

abbrev pub decreases-loop-start : goal.decreases-loop-start
decreases-loop-start l = length l.sorted - l.start
