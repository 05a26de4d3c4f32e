use Rattle.mt_defs.specs.Sorting.{merged_rows, sorted_rows}
use Rattle.mt_defs.specs.Writer.{written_folder}
use Rattle.mt_law_run.proofs.DoneLemmas.{merge_done, trial_done, write_done}
use Rattle.mt_law_run.proofs.KnownLemmas.{only_memory}
use Rattle.mt_law_run.proofs.CanMergeLemmas.{can_merge}
use Rattle.mt_law_run.proofs.CanWriteLemmas.{can_write}
use Rattle.mt_law_run.proofs.ending.nothing_else_stops_a_run.Goals as goal

pub returns-clause-write : goal.returns-clause-write
returns-clause-write c path part input table rows files old new status known left can =
    write_done path part input files (written_folder table (sorted_rows table.sort rows)) old new status known left (can_write files path part input table rows can)

pub returns-clause-merge : goal.returns-clause-merge
returns-clause-merge c path target parts table inputs files old new status known can =
    merge_done c.parts_have_one_outcome.ensures path target parts files (written_folder table (merged_rows table.sort inputs)) old new status known
    (can_merge c.parts_are_checked_exactly.ensures.accepted table files path target parts inputs can)

pub returns-clause-trial : goal.returns-clause-trial
returns-clause-trial c = trial_done

pub returns-clause-memory : goal.returns-clause-memory
returns-clause-memory c = only_memory
