use Rattle.mt_tokens.specs.Tokens.{plains}
use Rattle.mt_query_syntax.proofs.QueryLaws.{query_is_found, query_is_only}
use Rattle.mt_query_syntax.proofs.reading.read_query_text.Goals as goal

pub returns-in-Ok-clause-found : goal.returns-in-Ok-clause-found
returns-in-Ok-clause-found c =
    query_is_found c.args.text.now (plains c.in-Ok.tokens) c.sentence.result c.in-Ok.ensures.found (rw c.as_slice.ensures at c.sentence.ensures)

pub returns-in-Ok-clause-only : goal.returns-in-Ok-clause-only
returns-in-Ok-clause-only c =
    query_is_only c.args.text.now (plains c.in-Ok.tokens) c.sentence.result c.in-Ok.ensures.only (rw c.as_slice.ensures at c.sentence.ensures)
