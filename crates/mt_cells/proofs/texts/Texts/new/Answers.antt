use Rattle.std.proofs.Common.{◌∙◌, ap, List, ℕ}
use Rattle.mt_cells.specs.Pieces.{cut}
use Rattle.mt_cells.proofs.CutLemmas.{cut_none}
use Rattle.mt_cells.proofs.texts.Texts.new.Goals as goal

pub returns : goal.returns
returns c = ap (λ (sizes : List ℕ). cut sizes c.new-2.result.items) c.new.ensures ∙ cut_none c.new-2.result.items
