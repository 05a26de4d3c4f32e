use Rattle.mt_trial.proofs.ReadyLemmas.{trial_only}
use Rattle.mt_trial.proofs.law.trials_have_one_outcome.Goals as goal

pub returns : goal.returns
returns c number rows outcome some most =
    trial_only (record { accepted = c.storable_rows_are_accepted.ensures.accepted; one = c.parts_have_one_outcome.ensures; steps = c.other_parts_stay.ensures.steps }) number rows some most outcome
