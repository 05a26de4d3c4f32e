use Rattle.std.proofs.Common.{◌≡◌, drop}
use Rattle.mt_defs.specs.Folder.{folder_of}
use Rattle.mt_files.proofs.files.find.Given as goal

-- what is left decides
abbrev pub invariant-loop-file : goal.invariant-loop-file
invariant-loop-file l = folder_of (drop l.file-index l.files) l.name ≡ folder_of l.files l.name
