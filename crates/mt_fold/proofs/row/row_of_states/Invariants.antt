use Rattle.std.proofs.Common.{◌≡◌, ◌++◌, drop}
use Rattle.mt_fold.specs.Steps.{row_of_states}
use Rattle.mt_fold.proofs.row.row_of_states.Given as goal

-- the values so far, and then what is left of the items and states
abbrev pub invariant-loop-item : goal.invariant-loop-item
invariant-loop-item l = row_of_states l.table l.keys l.key l.items l.states ≡ l.row ++ row_of_states l.table l.keys l.key (drop l.item-index l.items) (drop l.place l.states)
