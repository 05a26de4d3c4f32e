use Rattle.mt_marks.proofs.WrittenLemmas.{written_read}
use Rattle.mt_marks.proofs.law.written_marks_are_read.Goals as goal

pub returns : goal.returns
returns c = written_read
