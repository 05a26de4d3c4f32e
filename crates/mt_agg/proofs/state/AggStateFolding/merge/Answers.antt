use Rattle.std.proofs.Common.{◌∙◌, ap, ◌≡◌, Some, ◌++◌}
use Rattle.mt_defs.specs.Folds.{states_join, state_of}
use Rattle.mt_agg.proofs.FoldLemmas.{joins}
use Rattle.mt_agg.proofs.state.AggStateFolding.merge.Goals as goal

pub returns-in-Some-clause-fold : goal.returns-in-Some-clause-fold
returns-in-Some-clause-fold c = λ a ms ns e f.
    let both : Some c.in-Some.state ≡ Some (state_of a (ms ++ ns)) =
    c.in-Some.ensures ∙ ap (λ s. states_join s c.args.other.now) e ∙ ap (states_join (state_of a ms)) f ∙ joins a ms ns in
    cc
