use Rattle.std.proofs.Common.{[], ◌∷◌, refl}
use Rattle.mt_law_run.proofs.ending.workers_change_nothing.Goals as goal

pub returns-clause-write : goal.returns-clause-write
returns-clause-write c path part one other is also = rw (is, also) refl

pub returns-clause-check : goal.returns-clause-check
returns-clause-check c path part one other is also = rw (is, also) refl

pub returns-clause-merge : goal.returns-clause-merge
returns-clause-merge c path one other [] is also = refl
returns-clause-merge c path one other (target ∷ parts) is also = rw (is, also) refl

pub returns-clause-trial : goal.returns-clause-trial
returns-clause-trial c number rows one other is also = rw (is, also) refl
