use Rattle.mt_layout.proofs.PayloadLemmas.{payload_size_is}
use Rattle.mt_layout.proofs.law.payloads_are_sums_over_rows.Goals as goal

pub returns : goal.returns
returns c = payload_size_is
