use Rattle.std.proofs.Common.{◌≡◌, ◌++◌, map}
use Rattle.mt_defs.specs.Writer.{file_below}
use Rattle.mt_build.proofs.projections.append_below.Given as goal

abbrev pub invariant-loop-file : goal.invariant-loop-file
invariant-loop-file l = l.files.items ≡ l.initial.files.items ++ map (file_below l.prefix) l.yielded
