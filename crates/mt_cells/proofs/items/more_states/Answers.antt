use Rattle.mt_cells.proofs.CutLemmas.{states_appended}
use Rattle.mt_cells.proofs.items.more_states.Goals as goal

pub returns-clause-values : goal.returns-clause-values
returns-clause-values c = rw c.in-States.is (states_appended c.args.states c.in_ok-states_behind-in-States.field-0 c.in-States.more c.args.from c.args.to (rw c.as_slice.ensures at c.in_ok-states_behind-in-States.ensures))
