use Rattle.std.proofs.Common.{◌≡◌, map, take}
use Rattle.mt_defs.specs.Wide.{stream_payloads}
use Rattle.mt_defs.specs.WrittenFrames.{written_frames}
use Rattle.mt_granules.specs.DataFiles.{data_file_of}
use Rattle.mt_wide.proofs.writing.stream_data.Given as goal

abbrev pub invariant-loop-granule : goal.invariant-loop-granule
invariant-loop-granule l = l.file ≡ data_file_of (map written_frames (stream_payloads l.stream_index (take l.granule-index l.streams)))
