use Rattle.std.proofs.Common.{take}
use Rattle.mt_table_names.specs.SentenceNames.{AreOfItems}
use Rattle.mt_table_names.proofs.sentence.item_names.Given as goal

abbrev pub invariant-loop-item : goal.invariant-loop-item
invariant-loop-item l = AreOfItems l.names (take l.item-index l.items)
