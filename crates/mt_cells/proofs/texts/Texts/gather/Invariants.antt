use Rattle.std.proofs.Common.{◌≡◌, [], map, take, get_or}
use Rattle.mt_cells.proofs.texts.Texts.gather.Given as goal

abbrev pub invariant-loop-index : goal.invariant-loop-index
invariant-loop-index l = l.gathered ≡ map (λ index. get_or l.self index []) (take l.index-index l.order)
