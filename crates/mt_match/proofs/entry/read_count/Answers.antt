use Rattle.std.proofs.Common.{arith}
use Rattle.mt_match.proofs.EntryLemmas.{count_first}
use Rattle.mt_match.proofs.entry.read_count.Goals as goal

pub returns : goal.returns
returns c = count_first c.args.entry.now (λ i. omega (arith, c.type_inv.entry i)) c.read_u64.result c.read_u64.ensures.first
