use Rattle.std.proofs.Common.{Err}
use Rattle.mt_trial.proofs.MergedLemmas.{both_answered, even_refused, odd_refused, table_refused, text_only}
use Rattle.mt_trial.proofs.running.trial_text.Goals as goal

pub returns-in-Err-clause-gives : goal.returns-in-Err-clause-gives
returns-in-Err-clause-gives g c =
    text_only c.args.number c.args.rows (Err c.in-Err.status) (λ outcome. (c.trials_have_one_outcome.ensures c.args.number c.args.rows outcome c.requires.some c.requires.most).0)
    (table_refused c.args.number c.args.rows c.in-Err.status c.in-Err.ensures.gives)

pub returns-in-Err-half_folder-clause-gives : goal.returns-in-Err-half_folder-clause-gives
returns-in-Err-half_folder-clause-gives g c =
    text_only c.args.number c.args.rows (Err c.in-Err-half_folder.status) (λ outcome. (c.trials_have_one_outcome.ensures c.args.number c.args.rows outcome c.requires.some c.requires.most).0)
    (even_refused c.args.number c.args.rows c.in-Ok.table c.in-Err-half_folder.status c.in-Ok.ensures.gives c.in-Err-half_folder.ensures.gives)

pub returns-in-Err-half_folder-2-clause-gives : goal.returns-in-Err-half_folder-2-clause-gives
returns-in-Err-half_folder-2-clause-gives g c =
    text_only c.args.number c.args.rows (Err c.in-Err-half_folder-2.status) (λ outcome. (c.trials_have_one_outcome.ensures c.args.number c.args.rows outcome c.requires.some c.requires.most).0)
    (odd_refused c.args.number c.args.rows c.in-Ok.table c.in-Ok-half_folder.folder c.in-Err-half_folder-2.status c.in-Ok.ensures.gives c.in-Ok-half_folder.ensures.gives c.in-Err-half_folder-2.ensures.gives)

pub returns-clause-gives : goal.returns-clause-gives
returns-clause-gives g c =
    text_only c.args.number c.args.rows c.merge_answers.result (λ outcome. (c.trials_have_one_outcome.ensures c.args.number c.args.rows outcome c.requires.some c.requires.most).0)
    (both_answered c.args.number c.args.rows c.in-Ok.table c.in-Ok-half_folder.folder c.in-Ok-half_folder-2.folder c.merge_answers.result _ c.in-Ok.ensures.gives c.in-Ok-half_folder.ensures.gives c.in-Ok-half_folder-2.ensures.gives
    (rw (c.as_slice.ensures, c.as_slice-2.ensures) at c.in-Ok-two_parts.ensures) c.merge_answers.ensures.gives)
