use Rattle.std.proofs.Common.{◌≡◌, ◌++◌, ◌-◌, take, drop}
use Rattle.mt_cells.proofs.items.states_behind.Given as goal

abbrev pub invariant-loop-index : goal.invariant-loop-index
invariant-loop-index l = l.states ≡ l.fn.states ++ take (l.index - l.from) (drop l.from l.more)
