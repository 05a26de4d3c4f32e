use Rattle.std.proofs.Common.{◌∙◌}
use Rattle.mt_defs.specs.Sorting.{sorted_rows}
use Rattle.mt_law_run.specs.Published.{in_granules, with_written_part}
use Rattle.mt_law_run.proofs.written.written_parts_are_read.Goals as goal

pub returns-clause-check : goal.returns-clause-check
returns-clause-check g c source path part input files old between next new status known left shown done same runs =
    let w = c.written_parts_stand.ensures source path part input files old between known left shown done in
    let rows = sorted_rows w.table.sort w.rows in
    (w, c.good_parts_are_read.ensures.check path part w.table (in_granules w.table rows) (with_written_part w.table part rows files) next new status (same ∙ w.gained.files_are) w.gained.part_is runs)

pub returns-clause-rows : goal.returns-clause-rows
returns-clause-rows g c source path part input files old between next new status known left shown done same runs =
    let w = c.written_parts_stand.ensures source path part input files old between known left shown done in
    let rows = sorted_rows w.table.sort w.rows in
    (w, c.good_parts_are_read.ensures.rows path part w.table (in_granules w.table rows) (with_written_part w.table part rows files) next new status (same ∙ w.gained.files_are) w.gained.part_is runs)

pub returns-clause-show : goal.returns-clause-show
returns-clause-show g c source path part input files old between next new status known left shown done same runs =
    let w = c.written_parts_stand.ensures source path part input files old between known left shown done in
    let rows = sorted_rows w.table.sort w.rows in
    (w, c.good_parts_are_read.ensures.show path part w.table (in_granules w.table rows) (with_written_part w.table part rows files) next new status (same ∙ w.gained.files_are) w.gained.part_is runs)

pub returns-clause-select : goal.returns-clause-select
returns-clause-select g c source path part input text files old between next new status known left shown done same runs =
    let w = c.written_parts_stand.ensures source path part input files old between known left shown done in
    let rows = sorted_rows w.table.sort w.rows in
    (w, λ query asks. c.good_parts_are_read.ensures.select path part text w.table (in_granules w.table rows) query (with_written_part w.table part rows files) next new status (same ∙ w.gained.files_are) w.gained.part_is asks runs)
