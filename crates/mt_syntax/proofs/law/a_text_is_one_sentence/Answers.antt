use Rattle.mt_syntax.proofs.SentenceLaws.{one_sentence}
use Rattle.mt_syntax.proofs.law.a_text_is_one_sentence.Goals as goal

pub returns : goal.returns
returns c = one_sentence
