use Rattle.std.proofs.Common.{◌≡◌, ◌≤◌, take}
use Rattle.mt_defs.specs.WrittenGranules.{payload_size}
use Rattle.mt_layout.specs.Sizes.{saturated}
use Rattle.mt_layout.proofs.GranuleLemmas.{IsCut}
use Rattle.mt_layout.proofs.layout.granules_of.Given as goal

abbrev pub invariant-loop-row : goal.invariant-loop-row
invariant-loop-row l = record {
  few : l.count ≤ l.row-index;
  cut : IsCut l.settings l.columns l.rows l.row-index l.granules l.count l.bytes;
  all : l.all_bytes ≡ saturated (payload_size l.columns (take l.row-index l.rows));
}
