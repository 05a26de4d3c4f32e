use Rattle.std.proofs.Common.{◌≡◌, ◌+◌, drop}
use Rattle.mt_definition.specs.RowsReading.{granule_of}
use Rattle.mt_definition.proofs.sort_order.granule_of.Given as goal

-- what is left decides
abbrev pub invariant-loop-count : goal.invariant-loop-count
invariant-loop-count l = record {
  same : granule_of l.granules l.row ≡ l.granule + granule_of (drop l.count-index l.granules) l.before;
  at : l.granule ≡ l.count-index;
}
