use Rattle.std.proofs.Common.{ap, sym, ◌∙◌}
use Rattle.mt_build.proofs.SkipLemmas.{partition_keys}
use Rattle.mt_defs.specs.Rows.{RowFits}
use Rattle.mt_defs.proofs.Sorted.{IsSorted-sorted_rows, All-sorted_rows, some_sorted_rows}
use Rattle.mt_defs.proofs.PartitionLemmas.{sorted_one}
use Rattle.mt_writing.specs.Partitions.{lines_partition}
use Rattle.mt_writing.proofs.PartitionLemmas.{have_one}
use Rattle.mt_writing.proofs.folder.folder_of_text.Goals as goal

pub lines_partition-requires-clause-key : goal.lines_partition-requires-clause-key
lines_partition-requires-clause-key g c = partition_keys c.args.table.now

pub sorted_folder-requires-clause-some : goal.sorted_folder-requires-clause-some
sorted_folder-requires-clause-some g c = λ κs outlive. rw (c.as_slice-3.ensures, c.in-Ok.ensures) (some_sorted_rows c.args.table.now.sort c.in_ok-rows.rows c.in_ok-rows.ensures.some)

pub sorted_folder-requires-clause-fit : goal.sorted_folder-requires-clause-fit
sorted_folder-requires-clause-fit g c =
    λ κs outlive. rw (c.as_slice-3.ensures, c.in-Ok.ensures) (All-sorted_rows (RowFits c.args.table.now.columns) c.args.table.now.sort c.in_ok-rows.rows c.in_ok-rows.ensures.fit)

pub sorted_folder-requires-clause-ordered : goal.sorted_folder-requires-clause-ordered
sorted_folder-requires-clause-ordered g c = λ κs outlive. rw (c.as_slice-3.ensures, c.in-Ok.ensures) (IsSorted-sorted_rows c.args.table.now.sort c.in_ok-rows.rows)

pub sorted_folder-requires-clause-one_partition : goal.sorted_folder-requires-clause-one_partition
sorted_folder-requires-clause-one_partition g c =
    λ κs outlive. rw (c.as_slice-3.ensures, c.in-Ok.ensures)
    (sorted_one c.args.table.now c.in_ok-rows.rows (have_one c.args.table.now c.in_ok-rows.rows (ap (lines_partition c.args.table.now) (sym c.as_slice-2.ensures) ∙ c.in_ok-lines_partition.ensures.gives)))
