use Rattle.mt_query.proofs.ReadLemmas.{one_thing}
use Rattle.mt_query.proofs.law.a_text_asks_one_thing.Goals as goal

pub returns : goal.returns
returns c = one_thing
