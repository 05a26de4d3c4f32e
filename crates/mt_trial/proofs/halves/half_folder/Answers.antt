use Rattle.std.proofs.Common.{◌∙◌}
use Rattle.mt_trial.proofs.HalfLemmas.{half_given, sorted_fit, sorted_month, sorted_order, sorted_some}
use Rattle.mt_trial.proofs.halves.half_folder.Goals as goal

pub sorted_folder-requires-clause-some : goal.sorted_folder-requires-clause-some
sorted_folder-requires-clause-some g c =
    λ κs within. sorted_some c.args.table.now c.args.number c.args.rows c.args.remainder c.in-Ok.half c.as_slice.result.now c.in-Ok.ensures (c.as_slice.ensures ∙ c.in-Ok-sort_rows.ensures) c.requires.some c.requires.half

pub sorted_folder-requires-clause-fit : goal.sorted_folder-requires-clause-fit
sorted_folder-requires-clause-fit g c =
    λ κs within. sorted_fit c.args.table.now c.args.number c.args.rows c.args.remainder c.in-Ok.half c.as_slice.result.now c.in-Ok.ensures (c.as_slice.ensures ∙ c.in-Ok-sort_rows.ensures) c.requires.columns

pub sorted_folder-requires-clause-ordered : goal.sorted_folder-requires-clause-ordered
sorted_folder-requires-clause-ordered g c =
    λ κs within. sorted_order c.args.table.now c.in-Ok.half c.as_slice.result.now (c.as_slice.ensures ∙ c.in-Ok-sort_rows.ensures)

pub sorted_folder-requires-clause-one_partition : goal.sorted_folder-requires-clause-one_partition
sorted_folder-requires-clause-one_partition g c =
    λ κs within. sorted_month c.args.table.now c.args.number c.args.rows c.args.remainder c.in-Ok.half c.as_slice.result.now c.in-Ok.ensures (c.as_slice.ensures ∙ c.in-Ok-sort_rows.ensures) c.requires.partition

pub returns-clause-gives : goal.returns-clause-gives
returns-clause-gives g c =
    half_given c.args.table.now c.args.number c.args.rows c.args.remainder c.in-Ok.half c.as_slice.result.now c.sorted_folder.result c.in-Ok.ensures (c.as_slice.ensures ∙ c.in-Ok-sort_rows.ensures) c.sorted_folder.ensures.gives
