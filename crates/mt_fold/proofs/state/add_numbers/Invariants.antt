use Rattle.std.proofs.Common.{◌≡◌, ◌≤◌, ◌++◌, take, drop, length}
use Rattle.mt_look.specs.Seen.{row_by_index}
use Rattle.mt_fold.specs.Answer.{aggregates}
use Rattle.mt_fold.specs.Steps.{each_with}
use Rattle.mt_fold.proofs.state.add_numbers.Given as goal

-- the states so far, and what is left of the states by what is left of the items
abbrev pub invariant-loop-item : goal.invariant-loop-item
invariant-loop-item g l = record {
  within : l.place ≤ length l.states;
  done :
      each_with (aggregates l.items) (row_by_index (g.L.Look.rows_of l.from) l.row) l.initial.states
      ≡ take l.place l.states ++ each_with (aggregates (drop l.item-index l.items)) (row_by_index (g.L.Look.rows_of l.from) l.row) (drop l.place l.states);
}
