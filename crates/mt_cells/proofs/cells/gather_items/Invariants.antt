use Rattle.std.proofs.Common.{◌≡◌, ◌*◌, take, drop}
use Rattle.std.specs.List.{flat_map}
use Rattle.mt_cells.proofs.cells.gather_items.Given as goal

abbrev pub invariant-loop-index : goal.invariant-loop-index
invariant-loop-index l = l.gathered.items ≡ flat_map (λ index. take l.size (drop (index * l.size) l.bytes)) (take l.index-index l.order)
