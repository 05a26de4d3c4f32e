use Rattle.std.proofs.Common.{◌∙◌, ap, map}
use Rattle.mt_types.specs.declared.value.Value.TheVariants.{Text}
use Rattle.mt_cells.proofs.CutLemmas.{texts_gathered}
use Rattle.mt_cells.proofs.items.Items.gather.Goals as goal

pub returns-in_ok-gather-in-Texts-clause-values : goal.returns-in_ok-gather-in-Texts-clause-values
returns-in_ok-gather-in-Texts-clause-values c =
    rw c.in-Texts.is (ap (map (λ text. Text text)) c.in_ok-gather-in-Texts.ensures ∙ texts_gathered c.in-Texts.texts c.args.order.now (rw c.in-Texts.is at c.requires))
