use Rattle.std.proofs.Common.{◌≡◌, take}
use Rattle.mt_cells.specs.Items.{default_item, items_in, kind_in}
use Rattle.mt_columns.specs.Leaves.{under_nulls}
use Rattle.mt_columns.proofs.nulls.replace_under.Given as goal

abbrev pub invariant-loop-index : goal.invariant-loop-index
invariant-loop-index l = (kind_in l.made ≡ kind_in l.items) × (items_in l.made ≡ under_nulls (default_item (kind_in l.items)) (take l.index l.nulls) (take l.index (items_in l.items)))
