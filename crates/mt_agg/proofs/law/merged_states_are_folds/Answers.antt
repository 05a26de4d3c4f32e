use Rattle.mt_agg.proofs.FoldLemmas.{joins}
use Rattle.mt_agg.proofs.law.merged_states_are_folds.Goals as goal

pub returns : goal.returns
returns c = joins
