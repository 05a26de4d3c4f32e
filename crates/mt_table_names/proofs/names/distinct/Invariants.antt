use Rattle.std.proofs.Common.{map}
use Rattle.mt_table_names.proofs.SetLemmas.{Taken}
use Rattle.mt_table_names.proofs.names.distinct.Given as goal

abbrev pub invariant-loop-name : goal.invariant-loop-name
invariant-loop-name l = Taken l.names (map (λ name. name.now) l.set.keys) l.name-index
