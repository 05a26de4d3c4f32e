use Rattle.mt_reading.specs.Reading.{check_steps, rows_steps}
use Rattle.mt_select.specs.Select.{select_steps}
use Rattle.mt_show.specs.Show.{show_steps}
use Rattle.mt_law_run.proofs.RefusalLemmas.{check_gave, check_refused, none_refused, rows_gave, rows_refused, select_gave, select_plain, show_gave, show_refused, was_accepted}
use Rattle.mt_law_run.proofs.reading.bad_parts_are_refused.Goals as goal

pub returns-clause-check : goal.returns-clause-check
returns-clause-check c path part table files old new status known has none runs =
    none_refused path part table files has c.parts_are_checked_exactly.ensures.accepted none (check_steps path part) old new status known (λ text is. was_accepted path part files text _ (check_gave path part files text is)) (check_refused path part files) runs

pub returns-clause-rows : goal.returns-clause-rows
returns-clause-rows c path part table files old new status known has none runs =
    none_refused path part table files has c.parts_are_checked_exactly.ensures.accepted none (rows_steps path part) old new status known (λ text is. was_accepted path part files text _ (rows_gave path part files text is)) (rows_refused path part files) runs

pub returns-clause-show : goal.returns-clause-show
returns-clause-show c path part table files old new status known has none runs =
    none_refused path part table files has c.parts_are_checked_exactly.ensures.accepted none (show_steps path part) old new status known (λ text is. was_accepted path part files text _ (show_gave path part files text is)) (show_refused path part files) runs

pub returns-clause-select : goal.returns-clause-select
returns-clause-select c path part text table query files old new status known has asks none runs =
    none_refused path part table files has c.parts_are_checked_exactly.ensures.accepted none (select_steps path part text) old new status known (λ answer is. was_accepted path part files answer _ (select_gave path part files text answer is).1)
    (select_plain path part table files has c.a_text_asks_one_thing.ensures text query asks) runs
