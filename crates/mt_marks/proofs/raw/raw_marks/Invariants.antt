use Rattle.mt_marks.proofs.RawLemmas.{ReadsEntries}
use Rattle.mt_marks.proofs.raw.raw_marks.Given as goal

abbrev pub invariant-loop : goal.invariant-loop
invariant-loop l = ReadsEntries l.per l.entries l.bytes l.counter l.rest l.places l.rows
