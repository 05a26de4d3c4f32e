use Rattle.std.proofs.Common.{◌-◌}
use Rattle.mt_tokens.specs.Tokens.{plains}
use Rattle.mt_phrases.specs.Readers.{chain}
use Rattle.mt_phrases.proofs.LoopLemmas.{Goes}
use Rattle.mt_cond_syntax.specs.Reading.{literal_at}
use Rattle.mt_cond_syntax.proofs.literal.literal_items.Given as goal

abbrev pub invariant-loop : goal.invariant-loop
invariant-loop l = Goes literal_at (l.end - l.counter) l.literals (plains l.rest) (chain literal_at (plains l.fn.tokens))
