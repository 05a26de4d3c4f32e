use Rattle.std.proofs.Common.{◌≡◌, ◌++◌, length, map, drop}
use Rattle.std.specs.Prelude.{sum}
use Rattle.mt_defs.specs.Rows.{column_values}
use Rattle.mt_defs.specs.Granules.{granule_rows}
use Rattle.mt_defs.specs.WrittenStreams.{written_streams}
use Rattle.mt_granules.specs.CellColumns.{HasValues}
use Rattle.mt_wide.proofs.writing.encode_granules.Given as goal

abbrev pub invariant-loop-count : goal.invariant-loop-count
invariant-loop-count l = record {
  encoded : l.streams.items ++ map (λ granule. written_streams l.column.ty (column_values l.column_index granule)) (granule_rows (drop l.count-index l.granules) l.rest)
      ≡ map (λ granule. written_streams l.column.ty (column_values l.column_index granule)) (granule_rows l.granules l.rows);
  cut : sum (drop l.count-index l.granules) ≡ length l.rest;
  values : HasValues l.column.ty l.column_index l.rest;
}
