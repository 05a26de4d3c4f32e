use Rattle.mt_marks.proofs.WordLemmas.{words_read}
use Rattle.mt_marks.proofs.law.read_marks_have_words.Goals as goal

pub returns : goal.returns
returns c = words_read
