use Rattle.mt_marks.proofs.DenotedLemmas.{one_position}
use Rattle.mt_marks.proofs.law.marks_have_one_position.Goals as goal

pub returns : goal.returns
returns c = one_position
