use Rattle.mt_cells.proofs.FitLemmas.{default_text_at}
use Rattle.mt_cells.proofs.items.Items.is_default.Goals as goal

pub returns-in-Texts : goal.returns-in-Texts
returns-in-Texts c =
    let d = default_text_at c.in-Texts.texts c.args.index (rw c.in-Texts.is at c.requires) in
    rw c.in-Texts.is ((λ r. d.0 (c.is_empty_at.ensures.0 r)), (λ e. c.is_empty_at.ensures.1 (d.1 e)))
