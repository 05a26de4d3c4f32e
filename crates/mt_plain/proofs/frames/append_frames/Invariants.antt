use Rattle.std.proofs.Common.{◌≡◌, ◌++◌, length}
use Rattle.mt_defs.specs.WrittenFrames.{written_frames}
use Rattle.mt_plain.proofs.frames.append_frames.Given as goal

abbrev pub invariant-loop-rest : goal.invariant-loop-rest
invariant-loop-rest l = l.out ++ written_frames l.rest ≡ l.initial.out ++ written_frames l.payload

abbrev pub decreases-loop-rest : goal.decreases-loop-rest
decreases-loop-rest l = length l.rest
