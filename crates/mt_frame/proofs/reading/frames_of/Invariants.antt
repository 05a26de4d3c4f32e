use Rattle.std.proofs.Common.{length, ◌-◌}
use Rattle.mt_frame.proofs.LoopLemmas.{Comes}
use Rattle.mt_frame.proofs.reading.frames_of.Given as goal

abbrev pub invariant-loop-offset : goal.invariant-loop-offset
invariant-loop-offset l = Comes l.file l.list l.offset

abbrev pub decreases-loop-offset : goal.decreases-loop-offset
decreases-loop-offset l = length l.file - l.offset
