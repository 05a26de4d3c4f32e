use Rattle.std.proofs.Common.{◌≡◌, length, map, take}
use Rattle.std.specs.Prelude.{IsTrue, Ok}
use Rattle.std.specs.List.{enumerate_from, list_all}
use Rattle.mt_types.specs.Fits.{fits_of}
use Rattle.mt_granules.specs.ColumnRows.{all_values}
use Rattle.mt_granules.specs.FileFaults.{in_order}
use Rattle.mt_granules.specs.PayloadView.{payloads_in}
use Rattle.mt_compact.specs.CompactReading.{compact_granule_reading}
use Rattle.mt_compact.proofs.reading.read_column.Given as goal

abbrev pub invariant-loop-granule : goal.invariant-loop-granule
invariant-loop-granule l = record {
  so_far : in_order (compact_granule_reading l.column l.column_index l.width (payloads_in l.payloads).payloads) (take l.granule (enumerate_from 0 l.granules)) ≡ Ok l.values;
  each : map (λ here. length here) l.values ≡ take l.granule l.granules;
  fit : IsTrue (list_all (fits_of l.column.ty) (all_values l.values));
}
