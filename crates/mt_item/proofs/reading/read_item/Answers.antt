use Rattle.std.proofs.Common.{arith}
use Rattle.mt_item.specs.ItemReading.{item_front}
use Rattle.mt_item.proofs.ExactLemmas.{first_item}
use Rattle.mt_item.proofs.ItemLemmas.{item_exact}
use Rattle.mt_item.proofs.reading.read_item.Goals as goal

pub returns-clause-first : goal.returns-clause-first
returns-clause-first c =
    first_item c.args.ty.now (item_front c.args.ty.now) (item_exact c.args.ty.now c.requires.items) c.args.bytes.now (λ i. omega (arith, c.type_inv.bytes i)) c.read.result c.read.ensures
