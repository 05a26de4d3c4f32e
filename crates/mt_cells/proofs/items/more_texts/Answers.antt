use Rattle.mt_cells.proofs.CutLemmas.{texts_appended}
use Rattle.mt_cells.proofs.items.more_texts.Goals as goal

pub returns-clause-values : goal.returns-clause-values
returns-clause-values c = rw c.in-Texts.is (texts_appended c.args.texts c.in_ok-append-in-Texts.field-0 c.in-Texts.more c.args.from c.args.to c.in_ok-append-in-Texts.ensures)
