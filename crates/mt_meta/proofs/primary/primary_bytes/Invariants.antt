use Rattle.std.proofs.Common.{◌≡◌, ◌++◌, length, take, drop}
use Rattle.std.specs.Prelude.{sum, All}
use Rattle.std.specs.List.{flat_map}
use Rattle.mt_defs.specs.Granules.{granule_rows}
use Rattle.mt_defs.specs.PrimaryIndex.{key_bytes}
use Rattle.mt_defs.specs.Rows.{RowFits}
use Rattle.mt_meta.proofs.primary.primary_bytes.Given as goal

abbrev pub invariant-loop-count : goal.invariant-loop-count
invariant-loop-count l =
    record {
      ahead : l.bytes ++ flat_map (key_bytes l.columns l.keys) (flat_map (take 1) (granule_rows (drop l.count-index l.granules) l.rest))
          ≡ flat_map (key_bytes l.columns l.keys) (flat_map (take 1) (granule_rows l.granules l.rows));
      cut : sum (drop l.count-index l.granules) ≡ length l.rest;
      fit : All (RowFits l.columns) l.rest;
    }
