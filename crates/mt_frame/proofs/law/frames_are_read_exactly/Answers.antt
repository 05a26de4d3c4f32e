use Rattle.mt_frame.proofs.LawLemmas.{read_exactly}
use Rattle.mt_frame.proofs.law.frames_are_read_exactly.Goals as goal

pub returns : goal.returns
returns c = read_exactly
