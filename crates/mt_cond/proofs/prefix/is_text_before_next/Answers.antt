use Rattle.std.proofs.Common.{arith}
use Rattle.mt_cond.proofs.PrefixLemmas.{before_next}
use Rattle.mt_cond.proofs.prefix.is_text_before_next.Goals as goal

pub returns-then-eq : goal.returns-then-eq
returns-then-eq c = grind (arith, before_next c.args.prefix.now c.args.text.now c.are_bytes.ensures)

pub returns-else-eq : goal.returns-else-eq
returns-else-eq c = grind (arith, c.begins_with.ensures, before_next c.args.prefix.now c.args.text.now c.are_bytes.ensures)
