use Rattle.mt_reading.specs.Reading.{check_steps, rows_steps}
use Rattle.mt_select.specs.Select.{select_steps}
use Rattle.mt_show.specs.Show.{show_steps}
use Rattle.mt_command.specs.declared.status.Status.TheVariants.{AtFault}
use Rattle.mt_law_run.proofs.RefusalLemmas.{at_fault, check_refused, rows_refused, select_at_fault, show_refused}
use Rattle.mt_law_run.proofs.reading.parts_at_fault_stand_for_none.Goals as goal

pub returns-clause-check : goal.returns-clause-check
returns-clause-check c path part word fault files old new known runs =
    at_fault path part files c.parts_are_checked_exactly.ensures.accepted (check_steps path part) old new word fault known (check_refused path part files (AtFault word fault)) runs

pub returns-clause-rows : goal.returns-clause-rows
returns-clause-rows c path part word fault files old new known runs =
    at_fault path part files c.parts_are_checked_exactly.ensures.accepted (rows_steps path part) old new word fault known (rows_refused path part files (AtFault word fault)) runs

pub returns-clause-show : goal.returns-clause-show
returns-clause-show c path part word fault files old new known runs =
    at_fault path part files c.parts_are_checked_exactly.ensures.accepted (show_steps path part) old new word fault known (show_refused path part files (AtFault word fault)) runs

pub returns-clause-select : goal.returns-clause-select
returns-clause-select c path part text word fault files old new known runs =
    at_fault path part files c.parts_are_checked_exactly.ensures.accepted (select_steps path part text) old new word fault known (select_at_fault path part files text word fault) runs
