use Rattle.std.proofs.Common.{◌∙◌, ap, sym, List, ℕ, length}
use Rattle.mt_cells.proofs.CutLemmas.{length-cut}
use Rattle.mt_cells.proofs.texts.Texts.len.Goals as goal

pub returns : goal.returns
returns c = c.len.ensures ∙ sym (length-cut c.self.inside.sizes c.self.inside.bytes.items) ∙ ap (λ (xs : List (List ℕ)). length xs) c.self.view_is
