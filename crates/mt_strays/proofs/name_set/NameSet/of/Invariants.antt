use Rattle.mt_strays.proofs.SetLemmas.{Holds}
use Rattle.mt_strays.proofs.name_set.NameSet.of.Given as goal

abbrev pub invariant-loop-name : goal.invariant-loop-name
invariant-loop-name l = Holds l.set.keys l.names l.name-index
