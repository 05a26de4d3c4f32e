use Rattle.std.proofs.Common.{take}
use Rattle.mt_table_names.specs.SentenceNames.{AreOfElements}
use Rattle.mt_table_names.proofs.sentence.element_names.Given as goal

abbrev pub invariant-loop-element : goal.invariant-loop-element
invariant-loop-element l = AreOfElements l.names (take l.element-index l.elements)
