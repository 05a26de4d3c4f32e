use Rattle.mt_query_syntax.proofs.QueryLaws.{one_query}
use Rattle.mt_query_syntax.proofs.law.a_text_is_one_query.Goals as goal

pub returns : goal.returns
returns c = one_query
