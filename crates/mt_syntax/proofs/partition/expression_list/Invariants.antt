use Rattle.std.proofs.Common.{◌-◌}
use Rattle.mt_tokens.specs.Tokens.{plains}
use Rattle.mt_phrases.specs.Readers.{chain}
use Rattle.mt_phrases.proofs.LoopLemmas.{Goes}
use Rattle.mt_syntax.specs.Reading.{expression_at}
use Rattle.mt_syntax.proofs.partition.expression_list.Given as goal

abbrev pub invariant-loop : goal.invariant-loop
invariant-loop l = Goes expression_at (l.end - l.counter) l.expressions (plains l.rest) (chain expression_at (plains l.fn.tokens))
