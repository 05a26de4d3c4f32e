use Rattle.std.proofs.Common.{◌≡◌, ◌++◌, take}
use Rattle.std.specs.List.{flat_map}
use Rattle.mt_types.specs.Items.{item_bytes}
use Rattle.mt_skip.specs.Gathering.{values_in}
use Rattle.mt_skip.proofs.entry.append_items.Given as goal

abbrev pub invariant-loop-i : goal.invariant-loop-i
invariant-loop-i l = l.out ≡ l.initial.out ++ flat_map (item_bytes l.ty) (take l.i (values_in l.values.keys))
