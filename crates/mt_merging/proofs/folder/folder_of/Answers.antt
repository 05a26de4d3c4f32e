use Rattle.mt_merging.proofs.RowLemmas.{merged_cells, merged_fit, merged_one, merged_ordered, merged_some}
use Rattle.mt_merging.proofs.folder.folder_of.Goals as goal

pub few_cells-requires-clause-fit : goal.few_cells-requires-clause-fit
few_cells-requires-clause-fit g c = rw (c.as_slice.ensures, c.in-Ok.ensures) (merged_fit c.args.table.now c.args.read c.requires.inputs)

pub few_cells-requires-clause-few : goal.few_cells-requires-clause-few
few_cells-requires-clause-few g c = rw (c.as_slice.ensures, c.in-Ok.ensures) (merged_cells c.args.table.now c.args.read c.requires.inputs)

pub sorted_folder-requires-clause-some : goal.sorted_folder-requires-clause-some
sorted_folder-requires-clause-some g c κs within = rw (c.as_slice-2.ensures, c.in-Ok.ensures) (merged_some c.args.table.now c.args.read c.requires.inputs c.requires.some)

pub sorted_folder-requires-clause-fit : goal.sorted_folder-requires-clause-fit
sorted_folder-requires-clause-fit g c κs within = rw (c.as_slice-2.ensures, c.in-Ok.ensures) (merged_fit c.args.table.now c.args.read c.requires.inputs)

pub sorted_folder-requires-clause-ordered : goal.sorted_folder-requires-clause-ordered
sorted_folder-requires-clause-ordered g c κs within = rw (c.as_slice-2.ensures, c.in-Ok.ensures) (merged_ordered c.args.table.now c.args.read)

pub sorted_folder-requires-clause-one_partition : goal.sorted_folder-requires-clause-one_partition
sorted_folder-requires-clause-one_partition g c κs within = rw (c.as_slice-2.ensures, c.in-Ok.ensures) (merged_one c.args.table.now c.args.read c.requires.inputs)
