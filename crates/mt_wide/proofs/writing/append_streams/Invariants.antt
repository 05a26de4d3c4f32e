use Rattle.std.proofs.Common.{◌≡◌, ◌++◌, take}
use Rattle.std.specs.List.{flat_map, enumerate_from}
use Rattle.mt_wide.specs.StreamFiles.{numbered_files}
use Rattle.mt_wide.proofs.writing.append_streams.Given as goal

abbrev pub invariant-loop-stream_index : goal.invariant-loop-stream_index
invariant-loop-stream_index l = l.files.items ≡ l.initial.files.items ++ flat_map (numbered_files l.granules l.streams) (take l.stream_index (enumerate_from 0 l.names))
