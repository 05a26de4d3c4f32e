use Rattle.std.proofs.Common.{◌≡◌, ◌++◌, take, length}
use Rattle.mt_defs.specs.WrittenFrames.{written_frames}
use Rattle.mt_frame.proofs.writing.append_frames.Given as goal

abbrev pub invariant-loop-rest : goal.invariant-loop-rest
invariant-loop-rest l = record {
  ahead : l.initial.out.items ++ written_frames l.payload ≡ l.out.items ++ written_frames l.rest;
  kept : take (length l.initial.out.items) l.out.items ≡ l.initial.out.items;
}

abbrev pub decreases-loop-rest : goal.decreases-loop-rest
decreases-loop-rest l = length l.rest
