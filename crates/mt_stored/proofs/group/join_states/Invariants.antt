use Rattle.std.proofs.Common.{◌≡◌, ◌≤◌, ◌++◌, take, drop, length, map}
use Rattle.mt_look.specs.Seen.{row_by_index}
use Rattle.mt_fold.specs.Answer.{aggregates}
use Rattle.mt_stored.specs.Merged.{given_state, join_each}
use Rattle.mt_stored.proofs.group.join_states.Given as goal

-- the states so far, and what is left of the states with what is left of the items
abbrev pub invariant-loop-item : goal.invariant-loop-item
invariant-loop-item g l =
    let given = given_state l.projection.keys.now l.projection.aggs.now (row_by_index (g.L.Look.rows_of l.from) l.row) in
    record {
      within : l.place ≤ length l.states;
      done : join_each l.initial.states (map given (aggregates l.items)) ≡ take l.place l.states ++ join_each (drop l.place l.states) (map given (aggregates (drop l.item-index l.items)));
    }
