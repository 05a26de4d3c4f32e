use Rattle.mt_item.proofs.ItemLemmas.{item_exact}
use Rattle.mt_item.proofs.ExactLemmas.{small_of}
use Rattle.mt_item.proofs.law.only_items_are_read.Goals as goal

pub returns : goal.returns
returns c = λ ty bytes value rest items are read. (item_exact ty items).sound bytes value rest (small_of bytes are) read
