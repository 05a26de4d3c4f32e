use Rattle.mt_strays.proofs.SetLemmas.{Decides}
use Rattle.mt_strays.proofs.strays.check_each.Given as goal

-- what is left decides
abbrev pub invariant-loop-entry : goal.invariant-loop-entry
invariant-loop-entry l = Decides l.set l.listing l.entry-index
