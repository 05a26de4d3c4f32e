use Rattle.std.proofs.Common.{◌≡◌, ◌≤◌, ◌-◌, drop, length}
use Rattle.mt_definition.specs.RowsReading.{first_fall}
use Rattle.mt_definition.proofs.RowLemmas.{later_by}
use Rattle.mt_definition.proofs.sort_order.first_fall.Given as goal

-- what is left decides
abbrev pub invariant-loop-index : goal.invariant-loop-index
invariant-loop-index l = record {
  some : 1 ≤ l.index;
  same : first_fall l.sort l.rows ≡ later_by (l.index - 1) (first_fall l.sort (drop (l.index - 1) l.rows));
}

abbrev pub decreases-loop-index : goal.decreases-loop-index
decreases-loop-index l = length l.rows - l.index
