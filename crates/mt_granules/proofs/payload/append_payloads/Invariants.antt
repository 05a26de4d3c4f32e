use Rattle.mt_granules.proofs.WalkLemmas.{Walks}
use Rattle.mt_granules.proofs.payload.append_payloads.Given as goal

abbrev pub invariant-loop-left : goal.invariant-loop-left
invariant-loop-left l = Walks l.frames l.rest l.size l.left l.initial.out.items l.out.items

abbrev pub decreases-loop-left : goal.decreases-loop-left
decreases-loop-left l = l.left
