use Rattle.std.proofs.Common.{arith}
use Rattle.mt_codec.proofs.DecodedLemmas.{all_small}
use Rattle.mt_codec.proofs.decoding.know_bytes.Goals as goal

pub returns : goal.returns
returns c = all_small c.args.bytes.now (λ j. omega (arith, c.type_inv.bytes j))
