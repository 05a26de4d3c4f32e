use Rattle.mt_reading.specs.Reading.{check_steps, rows_steps}
use Rattle.mt_select.specs.Select.{select_steps}
use Rattle.mt_show.specs.Show.{show_steps}
use Rattle.mt_law_run.proofs.NeverLemmas.{check_ends, rows_end, select_ends, show_ends}
use Rattle.mt_law_run.proofs.RefusalLemmas.{check_gave, done_printed, read_by, rows_gave, select_gave, selected_by, show_gave}
use Rattle.mt_law_run.proofs.reading.printed_texts_are_of_the_rows.Goals as goal

pub returns-clause-check : goal.returns-clause-check
returns-clause-check c path part files old new known runs =
    let (text, is, printed) = done_printed (check_steps path part) old new files known (check_ends path part files) runs in
    read_by c.parts_are_checked_exactly.ensures.accepted path part files old new text _ printed (check_gave path part files text is)

pub returns-clause-rows : goal.returns-clause-rows
returns-clause-rows c path part files old new known runs =
    let (text, is, printed) = done_printed (rows_steps path part) old new files known (rows_end path part files) runs in
    read_by c.parts_are_checked_exactly.ensures.accepted path part files old new text _ printed (rows_gave path part files text is)

pub returns-clause-show : goal.returns-clause-show
returns-clause-show c path part files old new known runs =
    let (text, is, printed) = done_printed (show_steps path part) old new files known (show_ends path part files) runs in
    read_by c.parts_are_checked_exactly.ensures.accepted path part files old new text _ printed (show_gave path part files text is)

pub returns-clause-select : goal.returns-clause-select
returns-clause-select c path part query_text files old new known runs =
    let (text, is, printed) = done_printed (select_steps path part query_text) old new files known (select_ends path part files query_text) runs in
    selected_by c.parts_are_checked_exactly.ensures.accepted path part files old new query_text text printed (select_gave path part files query_text text is)
