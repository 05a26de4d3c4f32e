use Rattle.std.proofs.Common.{take}
use Rattle.mt_query.proofs.GroupLemmas.{Alike}
use Rattle.mt_query.proofs.group.distinct.Given as goal

abbrev pub invariant-loop-key : goal.invariant-loop-key
invariant-loop-key l = Alike l.found (take l.key-index l.keys)
