use Rattle.mt_plain.proofs.TextLemmas.{text_appended}
use Rattle.mt_plain.proofs.texts.columns_text.Goals as goal

pub returns : goal.returns
returns c = text_appended c.args.first.now c.args.second.now _ _ _ c.in_ok-text.ensures c.in_ok-append_line.ensures c.in_ok-append_line-2.ensures
