use Rattle.mt_marks.proofs.WritingLemmas.{Writes}
use Rattle.mt_marks.proofs.writing.write_marks.Given as goal

abbrev pub invariant-loop-rows : goal.invariant-loop-rows
invariant-loop-rows l = Writes l.marks.per_granule l.marks.places l.marks.rows l.rows-index l.rest l.out
