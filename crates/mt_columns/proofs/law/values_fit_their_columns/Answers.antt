use Rattle.mt_columns.proofs.ShapeLemmas.{column_fits}
use Rattle.mt_columns.proofs.law.values_fit_their_columns.Goals as goal

pub returns : goal.returns
returns c = λ ty column value profile is fits. column_fits ty column value profile is fits
