use Rattle.mt_frame.proofs.WrittenLemmas.{framed}
use Rattle.mt_frame.proofs.law.written_frames_have_their_payload.Goals as goal

pub returns : goal.returns
returns c = framed
