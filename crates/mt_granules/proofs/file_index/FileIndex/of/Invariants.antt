use Rattle.std.proofs.Common.{◌≡◌, take}
use Rattle.mt_granules.specs.FileOrder.{referenced_files}
use Rattle.mt_granules.proofs.file_index.FileIndex.of.Given as goal

abbrev pub invariant-loop-file : goal.invariant-loop-file
invariant-loop-file l = referenced_files l.sorted.items ≡ take l.file-index l.files
