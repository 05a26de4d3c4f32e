use Rattle.std.proofs.Common.{ap, ◌∙◌}
use Rattle.mt_cells.specs.Pieces.{steps}
use Rattle.mt_cells.proofs.SizeLemmas.{steps_none}
use Rattle.mt_cells.proofs.sizes.Sizes.new.Goals as goal

pub returns : goal.returns
returns c = ap (steps 0) c.new.ensures ∙ steps_none 0
