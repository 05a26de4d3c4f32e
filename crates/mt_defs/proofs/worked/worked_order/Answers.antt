use Rattle.mt_defs.proofs.Examples.{in_order}
use Rattle.mt_defs.proofs.worked.worked_order.Goals as goal

pub returns : goal.returns
returns c = in_order
