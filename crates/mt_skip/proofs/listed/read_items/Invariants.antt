use Rattle.mt_skip.proofs.ReadLemmas.{ReadSoFar}
use Rattle.mt_skip.proofs.listed.read_items.Given as goal

abbrev pub invariant-loop-i : goal.invariant-loop-i
invariant-loop-i l = ReadSoFar l.ty l.count l._i l.bytes l.values.items l.rest
