use Rattle.std.proofs.Common.{◌≡◌, take}
use Rattle.mt_types.proofs.value.+copy.Given as goal

-- the items so far are copied
abbrev pub invariant-copy_items-loop-item : goal.invariant-copy_items-loop-item
invariant-copy_items-loop-item l = l.copied ≡ take l.item-index l.items
