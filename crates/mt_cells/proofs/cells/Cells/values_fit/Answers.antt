use Rattle.std.proofs.Common.{ap, sym, ◌∙◌}
use Rattle.std.specs.List.{list_all}
use Rattle.mt_types.specs.Fits.{fits_of}
use Rattle.mt_cells.specs.Kinds.{Typed, type_of}
use Rattle.mt_cells.proofs.cells.Cells.values_fit.Goals as goal

pub returns : goal.returns
returns c = sym (ap (λ (t : Typed). list_all (fits_of (type_of t.kind)) t.values) c.self.view_is) ∙ (rw c.as_slice.ensures.value at c.know_fit.ensures)
