use Rattle.mt_types.proofs.ByteLemmas.{test_of_bytes}
use Rattle.mt_types.proofs.fit.fixed_fits.Goals as goal

pub returns : goal.returns
returns c = test_of_bytes _ c.args.bytes.now c.type_inv.bytes
