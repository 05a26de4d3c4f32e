use Rattle.mt_cells.proofs.FitLemmas.{default_is_item}
use Rattle.mt_cells.proofs.law.defaults_are_items.Goals as goal

pub returns : goal.returns
returns c = default_is_item
