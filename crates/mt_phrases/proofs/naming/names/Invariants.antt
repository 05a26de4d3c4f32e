use Rattle.std.proofs.Common.{◌-◌}
use Rattle.mt_tokens.specs.Tokens.{plains}
use Rattle.mt_phrases.specs.Readers.{chain, one}
use Rattle.mt_phrases.proofs.LoopLemmas.{Goes}
use Rattle.mt_phrases.specs.NameRules.{name_by}
use Rattle.mt_phrases.proofs.naming.names.Given as goal

abbrev pub invariant-loop : goal.invariant-loop
invariant-loop l = Goes (one (name_by l.fn.rule)) (l.end - l.counter) l.names (plains l.rest) (chain (one (name_by l.fn.rule)) (plains l.fn.tokens))
