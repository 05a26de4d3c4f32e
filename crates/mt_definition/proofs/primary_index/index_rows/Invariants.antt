use Rattle.std.proofs.Common.{◌≡◌, ◌++◌, length, take, drop}
use Rattle.std.specs.Prelude.{sum}
use Rattle.std.specs.List.{flat_map}
use Rattle.mt_defs.specs.Granules.{granule_rows}
use Rattle.mt_definition.specs.RowRefs.{rows_in}
use Rattle.mt_definition.proofs.primary_index.index_rows.Given as goal

abbrev pub invariant-loop-count : goal.invariant-loop-count
invariant-loop-count l = record {
  ahead : rows_in l.found.items ++ flat_map (take 1) (granule_rows (drop l.count-index l.granules) l.rest) ≡ flat_map (take 1) (granule_rows l.granules l.rows);
  cut : sum (drop l.count-index l.granules) ≡ length l.rest;
}
