use Rattle.std.proofs.Common.{◌≡◌, map, take}
use Rattle.mt_defs.specs.WrittenFrames.{written_frames}
use Rattle.mt_granules.specs.DataFiles.{data_file_of}
use Rattle.mt_build.proofs.skips.framed_entries.Given as goal

abbrev pub invariant-loop-entry : goal.invariant-loop-entry
invariant-loop-entry l = l.file ≡ data_file_of (map written_frames (take l.entry-index l.entries))
