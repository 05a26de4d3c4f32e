use Rattle.std.proofs.Common.{◌≡◌, take}
use Rattle.std.specs.Prelude.{All, Ok}
use Rattle.mt_granules.specs.FileFaults.{in_order}
use Rattle.mt_granules.specs.FileFolder.{indexed_folder}
use Rattle.mt_wide.specs.StreamView.{HasGranules, streams_in}
use Rattle.mt_wide.specs.WideReading.{stream_reading}
use Rattle.mt_wide.proofs.column.read_streams.Given as goal

abbrev pub invariant-loop-name : goal.invariant-loop-name
invariant-loop-name l = record {
  so_far : in_order (stream_reading (indexed_folder l.folder) l.granules) (take l.name-index l.names) ≡ Ok (streams_in l.streams);
  each : All (HasGranules l.granules) l.streams;
}
