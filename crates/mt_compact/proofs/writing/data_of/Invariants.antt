use Rattle.std.proofs.Common.{◌≡◌, ◌++◌, ℕ, List, length, drop}
use Rattle.std.specs.Prelude.{sum, All}
use Rattle.std.specs.List.{flat_map}
use Rattle.mt_defs.specs.Rows.{RowFits}
use Rattle.mt_defs.specs.Granules.{granule_rows}
use Rattle.mt_defs.specs.WrittenColumns.{compact_frames}
use Rattle.mt_granules.specs.DataFiles.{data_file_of}
use Rattle.mt_compact.proofs.writing.data_of.Given as goal

abbrev pub invariant-loop-count : goal.invariant-loop-count
invariant-loop-count l = record {
  runs : List (List ℕ);
  written : l.file ≡ data_file_of runs;
  ahead : runs ++ flat_map (compact_frames l.columns) (granule_rows (drop l.count-index l.granules) l.rest) ≡ flat_map (compact_frames l.columns) (granule_rows l.granules l.rows);
  cut : sum (drop l.count-index l.granules) ≡ length l.rest;
  fit : All (RowFits l.columns) l.rest;
}
