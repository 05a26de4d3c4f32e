use Rattle.mt_trial.proofs.AnswerLemmas.{query_answered, query_refused}
use Rattle.mt_trial.proofs.answers.answer_of.Goals as goal

pub returns-in-Err-clause-gives : goal.returns-in-Err-clause-gives
returns-in-Err-clause-gives c = query_refused c.args.table.now c.args.rows.now c.args.text.now c.in-Err.status c.in-Err.ensures.gives

pub returns-in-Ok-select_rows-clause-gives : goal.returns-in-Ok-select_rows-clause-gives
returns-in-Ok-select_rows-clause-gives c = query_answered c.args.table.now c.args.rows.now c.args.text.now c.in-Ok.query c.in-Ok-select_rows.answer c.in-Ok.ensures.gives c.in-Ok-select_rows.ensures
