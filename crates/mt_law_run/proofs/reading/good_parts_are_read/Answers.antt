use Rattle.mt_reading.specs.Reading.{check_steps, rows_steps}
use Rattle.mt_select.specs.Select.{select_steps}
use Rattle.mt_show.specs.Show.{show_steps}
use Rattle.mt_law_run.proofs.ReadLemmas.{check_only, is_read, prints, rows_only, select_only, show_only}
use Rattle.mt_law_run.proofs.reading.good_parts_are_read.Goals as goal

pub returns-clause-check : goal.returns-clause-check
returns-clause-check c path part table held files old new status known has runs =
    let read = is_read c.parts_are_checked_exactly.ensures.accepted c.parts_have_one_outcome.ensures files path part table held has in
    prints (check_steps path part) old new status files _ known (check_only path part table held files read) runs

pub returns-clause-rows : goal.returns-clause-rows
returns-clause-rows c path part table held files old new status known has runs =
    let read = is_read c.parts_are_checked_exactly.ensures.accepted c.parts_have_one_outcome.ensures files path part table held has in
    prints (rows_steps path part) old new status files _ known (rows_only path part table held files read) runs

pub returns-clause-show : goal.returns-clause-show
returns-clause-show c path part table held files old new status known has runs =
    let read = is_read c.parts_are_checked_exactly.ensures.accepted c.parts_have_one_outcome.ensures files path part table held has in
    prints (show_steps path part) old new status files _ known (show_only path part table held files read) runs

pub returns-clause-select : goal.returns-clause-select
returns-clause-select c path part text table held query files old new status known has asks runs =
    let read = is_read c.parts_are_checked_exactly.ensures.accepted c.parts_have_one_outcome.ensures files path part table held has in
    prints (select_steps path part text) old new status files _ known (select_only path part table held files read c.a_text_asks_one_thing.ensures text query asks) runs
