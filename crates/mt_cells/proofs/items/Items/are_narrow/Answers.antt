use Rattle.mt_cells.proofs.FitLemmas.{cells_are_narrow}
use Rattle.mt_cells.proofs.items.Items.are_narrow.Goals as goal

pub returns-in-Cells : goal.returns-in-Cells
returns-in-Cells c = rw c.in-Cells.is (cells_are_narrow c.in-Cells.cells.kind c.in-Cells.cells.values c.values_fit.ensures)
