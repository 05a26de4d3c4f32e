use Rattle.std.proofs.Common.{take}
use Rattle.mt_shelf.specs.Bytes.{AllHoldBytes}
use Rattle.mt_shelf.proofs.bytes.know_files.Given as goal

-- the files so far hold bytes
abbrev pub invariant-loop-file : goal.invariant-loop-file
invariant-loop-file l = AllHoldBytes (take l.file-index l.files)
