use Rattle.std.proofs.Common.{◌≡◌, ◌^◌, ◌-◌, min, take}
use Rattle.mt_command.specs.Targets.{folder_bytes}
use Rattle.mt_command.proofs.folder.is_above_limit.Given as goal

abbrev pub invariant-loop-file : goal.invariant-loop-file
invariant-loop-file l = l.bytes ≡ min (folder_bytes (take l.file-index l.folder)) (2 ^ 64 - 1)
