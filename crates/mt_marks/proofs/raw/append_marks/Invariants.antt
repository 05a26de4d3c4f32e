use Rattle.mt_marks.proofs.RawLemmas.{ReadsMarks}
use Rattle.mt_marks.proofs.raw.append_marks.Given as goal

abbrev pub invariant-loop : goal.invariant-loop
invariant-loop l = ReadsMarks l.per_granule l.bytes l.initial.places l.counter l.rest l.places
