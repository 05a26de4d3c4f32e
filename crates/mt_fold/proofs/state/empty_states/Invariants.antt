use Rattle.std.proofs.Common.{◌≡◌, take, []}
use Rattle.mt_fold.specs.Answer.{aggregates}
use Rattle.mt_fold.specs.Gathered.{folds_of}
use Rattle.mt_fold.proofs.state.empty_states.Given as goal

abbrev pub invariant-loop-item : goal.invariant-loop-item
invariant-loop-item l = l.states ≡ folds_of (aggregates (take l.item-index l.items)) []
