use Rattle.std.proofs.Common.{◌-◌}
use Rattle.mt_tokens.specs.Tokens.{plains}
use Rattle.mt_phrases.specs.Readers.{chain}
use Rattle.mt_phrases.proofs.LoopLemmas.{Goes}
use Rattle.mt_element_syntax.specs.Reading.{element_at}
use Rattle.mt_element_syntax.proofs.element.element_list.Given as goal

abbrev pub invariant-loop : goal.invariant-loop
invariant-loop l = Goes element_at (l.end - l.counter) l.elements (plains l.rest) (chain element_at (plains l.fn.tokens))
