use Rattle.std.proofs.Common.{[], refl}
use Rattle.mt_command.specs.Commands.{printing_plan, publishing_plan}
use Rattle.mt_writing.specs.Write.{folder_in, write_plan}
use Rattle.mt_law_run.proofs.KeptLemmas.{files_stay, keeps}
use Rattle.mt_law_run.proofs.staying.other_parts_stay_as_they_were.Goals as goal

pub returns-clause-write : goal.returns-clause-write
returns-clause-write c path part input files old new status known left runs =
    keeps (record { file = c.other_parts_stay.ensures.file; folder = c.other_parts_stay.ensures.folder; listing = c.other_parts_stay.ensures.listing }) part files new (write_plan path part) old status input (folder_in path part files input) known left refl runs

pub returns-clause-merge : goal.returns-clause-merge
returns-clause-merge c path target parts files old new status known (outcome, is, performs) =
    keeps (record { file = c.other_parts_stay.ensures.file; folder = c.other_parts_stay.ensures.folder; listing = c.other_parts_stay.ensures.listing }) target files new (publishing_plan target outcome) old status [] outcome known refl refl performs

pub returns-clause-check : goal.returns-clause-check
returns-clause-check c path part files old new status known (outcome, is, performs) =
    files_stay (printing_plan outcome) old new status files [] known refl refl performs

pub returns-clause-rows : goal.returns-clause-rows
returns-clause-rows c path part files old new status known (outcome, is, performs) =
    files_stay (printing_plan outcome) old new status files [] known refl refl performs

pub returns-clause-show : goal.returns-clause-show
returns-clause-show c path part files old new status known (outcome, is, performs) =
    files_stay (printing_plan outcome) old new status files [] known refl refl performs

pub returns-clause-select : goal.returns-clause-select
returns-clause-select c path part text files old new status known (outcome, is, performs) =
    files_stay (printing_plan outcome) old new status files [] known refl refl performs

pub returns-clause-trial : goal.returns-clause-trial
returns-clause-trial c number rows files old new status known runs =
    files_stay (printing_plan runs.performed.0) old new status files [] known refl refl runs.performed.2
