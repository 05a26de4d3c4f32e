use Rattle.mt_layout.proofs.StreamLemmas.{streams_size_sum}
use Rattle.mt_layout.proofs.law.payloads_are_sums_over_values.Goals as goal

pub returns : goal.returns
returns c = streams_size_sum
