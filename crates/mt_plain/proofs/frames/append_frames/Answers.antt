use Rattle.std.proofs.Common.{rules}
use Rattle.mt_plain.proofs.FrameLemmas.{frames_step}
use Rattle.mt_plain.proofs.frames.append_frames.Goals as goal

pub loop-rest-preserved : goal.loop-rest-preserved
loop-rest-preserved c = frames_step _ _ _ _ _ _ _ c.min.ensures c.split_at.ensures.front c.split_at.ensures.back (search rules) c.in_ok-append_frame.ensures c.loop-rest.invariant
