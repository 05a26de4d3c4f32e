use Rattle.mt_select.proofs.SelectLemmas.{answer_outcome, query_refused, table_refused}
use Rattle.mt_select.proofs.answer.select_text.Goals as goal

pub returns-in-Err-clause-gives : goal.returns-in-Err-clause-gives
returns-in-Err-clause-gives g c = table_refused c.args.path.now c.args.part.now c.args.query.now c.in-Err.status _ c.in-Err.ensures.gives

pub returns-in-Err-read_query-clause-gives : goal.returns-in-Err-read_query-clause-gives
returns-in-Err-read_query-clause-gives g c =
    query_refused c.args.path.now c.args.part.now c.args.query.now c.in-Ok.table c.in-Err-read_query.status _ c.in-Ok.ensures.gives c.in-Err-read_query.ensures.gives

pub returns-clause-gives : goal.returns-clause-gives
returns-clause-gives g c =
    answer_outcome c.args.path.now c.args.part.now c.args.query.now c.in-Ok.table c.in-Ok-read_query.query c.answer_of.result _ _ c.in-Ok.ensures.gives c.in-Ok.ensures.files c.in-Ok-read_query.ensures.gives c.answer_of.ensures.gives
