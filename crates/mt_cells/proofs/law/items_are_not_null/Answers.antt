use Rattle.mt_cells.proofs.FitLemmas.{not_null}
use Rattle.mt_cells.proofs.law.items_are_not_null.Goals as goal

pub returns : goal.returns
returns c = not_null
