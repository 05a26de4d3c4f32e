use Rattle.std.proofs.Common.{arith}
use Rattle.mt_cells.proofs.NumberLemmas.{values_fit}
use Rattle.mt_cells.proofs.cells.know_fit.Goals as goal

pub returns : goal.returns
returns c = values_fit c.args._kind c.args._count c.args._bytes.now c.requires (λ i. omega (arith, c.type_inv._bytes i))
