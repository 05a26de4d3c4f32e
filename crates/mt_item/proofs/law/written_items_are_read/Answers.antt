use Rattle.mt_item.proofs.ItemLemmas.{item_exact}
use Rattle.mt_item.proofs.law.written_items_are_read.Goals as goal

pub returns : goal.returns
returns c = λ ty value rest items fits. (item_exact ty items).complete value rest fits
