use Rattle.std.proofs.Common.{length, ◌-◌}
use Rattle.mt_item.specs.ItemReading.{item_front}
use Rattle.mt_codec.proofs.LoopLemmas.{Comes}
use Rattle.mt_codec.proofs.items.items_in.Given as goal

abbrev pub invariant-loop-alloc : goal.invariant-loop-alloc
invariant-loop-alloc l = Comes (item_front l.ty) l.count l.bytes l.values l.rest

abbrev pub decreases-loop-alloc : goal.decreases-loop-alloc
decreases-loop-alloc l = l.count - length l.values
