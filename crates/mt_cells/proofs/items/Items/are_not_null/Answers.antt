use Rattle.mt_cells.proofs.FitLemmas.{cells_are_items, states_are_items, texts_are_items}
use Rattle.mt_cells.proofs.items.Items.are_not_null.Goals as goal

pub returns-in-Cells : goal.returns-in-Cells
returns-in-Cells c = rw c.in-Cells.is (cells_are_items c.in-Cells.cells.kind c.in-Cells.cells.values c.values_fit.ensures)

pub returns-in-Texts : goal.returns-in-Texts
returns-in-Texts c = rw c.in-Texts.is (texts_are_items c.in-Texts.field-0)

pub returns-in-States : goal.returns-in-States
returns-in-States c = rw c.in-States.is (states_are_items c.in-States.field-0)
