use Rattle.std.proofs.Common.{◌+◌, take}
use Rattle.std.specs.Prelude.{All}
use Rattle.mt_defs.specs.Rows.{RowFits}
use Rattle.mt_granules.specs.FileFolder.{indexed_folder}
use Rattle.mt_wide.proofs.ReadingLemmas.{IsReadSoFar}
use Rattle.mt_wide.proofs.reading.read_columns.Given as goal

abbrev pub invariant-loop-column : goal.invariant-loop-column
invariant-loop-column l = record {
  read : IsReadSoFar (indexed_folder l.folder) l.granules l.count (take (l.column-index + 1) l.columns) l.rows.items;
  fit : All (RowFits (take (l.column-index + 1) l.columns)) l.rows.items;
}
