use Rattle.std.proofs.Common.{◌≡◌, take}
use Rattle.std.specs.List.{flat_map}
use Rattle.mt_build.specs.SkipFiles.{passed_mark}
use Rattle.mt_build.proofs.skips.marks_bytes.Given as goal

abbrev pub invariant-loop-mark : goal.invariant-loop-mark
invariant-loop-mark l = l.bytes ≡ flat_map passed_mark (take l.mark-index l.marks)
