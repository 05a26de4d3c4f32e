use Rattle.mt_frame.proofs.LawLemmas.{one_payload}
use Rattle.mt_frame.proofs.law.framed_bytes_have_one_payload.Goals as goal

pub returns : goal.returns
returns c = one_payload
