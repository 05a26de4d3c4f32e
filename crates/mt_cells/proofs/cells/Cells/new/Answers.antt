use Rattle.mt_cells.proofs.CellLemmas.{values_of_none}
use Rattle.mt_cells.proofs.cells.Cells.new.Goals as goal

pub returns-clause-values : goal.returns-clause-values
returns-clause-values c = values_of_none c.args.kind c.new.result.items
