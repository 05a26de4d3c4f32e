use Rattle.mt_marks.proofs.EntryLemmas.{KeepsRules}
use Rattle.mt_marks.proofs.entries.check_marks.Given as goal

abbrev pub invariant-loop-index : goal.invariant-loop-index
invariant-loop-index l = KeepsRules l.frames l.per_granule l.marks.places l.rows l.index l.rest l.total l.former
