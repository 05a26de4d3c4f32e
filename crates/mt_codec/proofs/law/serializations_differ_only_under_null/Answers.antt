use Rattle.mt_codec.proofs.UnderNullLemmas.{differ_under_null}
use Rattle.mt_codec.proofs.law.serializations_differ_only_under_null.Goals as goal

pub returns : goal.returns
returns c = differ_under_null
