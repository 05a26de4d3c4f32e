use Rattle.mt_shelf.proofs.ByteLemmas.{are_bytes}
use Rattle.mt_shelf.proofs.bytes.know_bytes.Goals as goal

pub returns : goal.returns
returns c = are_bytes c.args.bytes.now c.type_inv.bytes
