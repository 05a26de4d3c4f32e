use Rattle.mt_trial.specs.Queries.{great_text, groups_text, totals_text}
use Rattle.mt_trial.proofs.AnswerLemmas.{all_answered, great_refused, groups_refused}
use Rattle.mt_trial.proofs.answers.answers_of.Goals as goal

pub returns-in-Err-answer_of-clause-gives : goal.returns-in-Err-answer_of-clause-gives
unfolding totals_text groups_text great_text
returns-in-Err-answer_of-clause-gives c = groups_refused c.args.table.now c.args.rows.now c.in-Ok.totals c.in-Err-answer_of.status c.in-Ok.ensures.gives c.in-Err-answer_of.ensures.gives

pub returns-in-Err-answer_of-2-clause-gives : goal.returns-in-Err-answer_of-2-clause-gives
unfolding totals_text groups_text great_text
returns-in-Err-answer_of-2-clause-gives c =
    great_refused c.args.table.now c.args.rows.now c.in-Ok.totals c.in-Ok-answer_of.groups c.in-Err-answer_of-2.status c.in-Ok.ensures.gives c.in-Ok-answer_of.ensures.gives c.in-Err-answer_of-2.ensures.gives

pub returns-in-Ok-text_of_answers-clause-gives : goal.returns-in-Ok-text_of_answers-clause-gives
unfolding totals_text groups_text great_text
returns-in-Ok-text_of_answers-clause-gives c =
    all_answered c.args.table.now c.args.rows.now c.in-Ok.totals c.in-Ok-answer_of.groups c.in-Ok-answer_of-2.great c.in-Ok-text_of_answers.text c.in-Ok.ensures.gives c.in-Ok-answer_of.ensures.gives c.in-Ok-answer_of-2.ensures.gives
    (rw (c.as_slice.ensures, c.as_slice-2.ensures, c.as_slice-3.ensures) at c.in-Ok-text_of_answers.ensures)
