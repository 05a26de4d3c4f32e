use Rattle.mt_meta.proofs.CountLemmas.{read_is, is_read}
use Rattle.mt_meta.proofs.law.counts_are_read.Goals as goal

pub returns : goal.returns
returns c = λ columns rows text. (read_is columns rows text, is_read columns rows text)
