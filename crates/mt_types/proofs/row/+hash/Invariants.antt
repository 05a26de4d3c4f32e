use Rattle.std.proofs.Common.{◌≡◌, take}
use Rattle.std.specs.List.{fold}
use Rattle.mt_types.specs.Hashed.{row_writes}
use Rattle.mt_types.proofs.row.+hash.Given as goal

-- the items so far are fed
abbrev pub invariant-hash_items-loop-item : goal.invariant-hash_items-loop-item
invariant-hash_items-loop-item g l = l.state ≡ fold g.H.Hasher.write l.initial.state (row_writes (take l.item-index l.items))
