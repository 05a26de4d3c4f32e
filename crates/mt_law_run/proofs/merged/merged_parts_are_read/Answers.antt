use Rattle.std.proofs.Common.{◌∙◌}
use Rattle.mt_defs.specs.Sorting.{merged_rows}
use Rattle.mt_law_run.specs.Published.{in_granules, with_written_part}
use Rattle.mt_law_run.proofs.merged.merged_parts_are_read.Goals as goal

pub returns-clause-check : goal.returns-clause-check
returns-clause-check c path target parts files old between next new status known are done same runs =
    let w = c.merged_parts_stand.ensures path target parts files old between known are done in
    let rows = merged_rows w.table.sort w.inputs in
    (w, c.good_parts_are_read.ensures.check path target w.table (in_granules w.table rows) (with_written_part w.table target rows files) next new status (same ∙ w.gained.files_are) w.gained.part_is runs)

pub returns-clause-rows : goal.returns-clause-rows
returns-clause-rows c path target parts files old between next new status known are done same runs =
    let w = c.merged_parts_stand.ensures path target parts files old between known are done in
    let rows = merged_rows w.table.sort w.inputs in
    (w, c.good_parts_are_read.ensures.rows path target w.table (in_granules w.table rows) (with_written_part w.table target rows files) next new status (same ∙ w.gained.files_are) w.gained.part_is runs)

pub returns-clause-show : goal.returns-clause-show
returns-clause-show c path target parts files old between next new status known are done same runs =
    let w = c.merged_parts_stand.ensures path target parts files old between known are done in
    let rows = merged_rows w.table.sort w.inputs in
    (w, c.good_parts_are_read.ensures.show path target w.table (in_granules w.table rows) (with_written_part w.table target rows files) next new status (same ∙ w.gained.files_are) w.gained.part_is runs)

pub returns-clause-select : goal.returns-clause-select
returns-clause-select c path target text parts files old between next new status known are done same runs =
    let w = c.merged_parts_stand.ensures path target parts files old between known are done in
    let rows = merged_rows w.table.sort w.inputs in
    (w, λ query asks. c.good_parts_are_read.ensures.select path target text w.table (in_granules w.table rows) query (with_written_part w.table target rows files) next new status (same ∙ w.gained.files_are) w.gained.part_is asks runs)
