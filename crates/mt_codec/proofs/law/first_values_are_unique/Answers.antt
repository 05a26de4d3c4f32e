use Rattle.mt_codec.proofs.DecodedLemmas.{unique_front}
use Rattle.mt_codec.proofs.law.first_values_are_unique.Goals as goal

pub returns : goal.returns
returns c = unique_front
