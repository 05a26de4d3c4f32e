use Rattle.mt_fold.specs.Gathered.{Suits}
use Rattle.mt_stored_tests.proofs.merging.merged.Given as goal

abbrev pub invariant-loop-row : goal.invariant-loop-row
invariant-loop-row l = Suits l.partial l.query
