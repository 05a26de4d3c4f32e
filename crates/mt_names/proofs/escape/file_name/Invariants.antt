use Rattle.std.proofs.Common.{◌≡◌, ◌++◌, take}
use Rattle.mt_defs.specs.FileNames.{file_name}
use Rattle.mt_names.proofs.escape.file_name.Given as goal

abbrev pub invariant-loop-byte : goal.invariant-loop-byte
invariant-loop-byte l = l.file ≡ l.beginning ++ file_name (take l.byte-index l.name)
