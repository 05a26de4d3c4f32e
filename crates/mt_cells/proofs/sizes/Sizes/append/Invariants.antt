use Rattle.std.proofs.Common.{◌≡◌, ◌++◌, ◌-◌, take, drop}
use Rattle.mt_cells.proofs.sizes.Sizes.append.Given as goal

abbrev pub invariant-loop-index : goal.invariant-loop-index
invariant-loop-index l = l.self ≡ l.fn.self ++ take (l.index - l.from) (drop l.from l.other)
