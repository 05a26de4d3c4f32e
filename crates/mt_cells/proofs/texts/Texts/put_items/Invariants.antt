use Rattle.std.proofs.Common.{◌≡◌, ◌++◌, ◌-◌, take, drop}
use Rattle.std.specs.List.{flat_map}
use Rattle.mt_cells.specs.Pieces.{text_item}
use Rattle.mt_cells.proofs.texts.Texts.put_items.Given as goal

abbrev pub invariant-loop-index : goal.invariant-loop-index
invariant-loop-index l = l.out ≡ l.fn.out ++ flat_map text_item (take (l.index - l.from) (drop l.from l.self))
