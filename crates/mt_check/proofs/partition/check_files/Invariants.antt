use Rattle.std.proofs.Common.{◌≡◌, drop}
use Rattle.mt_defs.specs.Folder.{folder_of}
use Rattle.mt_check.specs.PartitionReading.{files_reading}
use Rattle.mt_check.proofs.partition.check_files.Given as goal

-- what is left decides
abbrev pub invariant-loop-file : goal.invariant-loop-file
invariant-loop-file l = files_reading (folder_of l.files) (drop l.file-index l.written) ≡ files_reading (folder_of l.files) l.written
