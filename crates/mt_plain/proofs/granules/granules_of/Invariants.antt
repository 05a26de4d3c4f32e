use Rattle.std.proofs.Common.{◌≡◌, ◌++◌, length}
use Rattle.mt_defs.specs.WrittenGranules.{written_granules}
use Rattle.mt_plain.specs.NumberRows.{AreNumberRows}
use Rattle.mt_plain.proofs.granules.granules_of.Given as goal

abbrev pub invariant-loop-rest : goal.invariant-loop-rest
invariant-loop-rest l = record {
  ahead : l.granules ++ written_granules l.table.settings l.table.columns l.rest ≡ written_granules l.table.settings l.table.columns l.rows;
  numbers : AreNumberRows l.table l.rest;
}

abbrev pub decreases-loop-rest : goal.decreases-loop-rest
decreases-loop-rest l = length l.rest
