use Rattle.std.proofs.Common.{◌-◌}
use Rattle.mt_tokens.specs.Tokens.{plains}
use Rattle.mt_phrases.specs.Readers.{chain}
use Rattle.mt_phrases.proofs.LoopLemmas.{Goes}
use Rattle.mt_phrases.specs.Selections.{item_at}
use Rattle.mt_phrases.specs.NameRules.{name_by}
use Rattle.mt_phrases.proofs.selecting.items.Given as goal

abbrev pub invariant-loop : goal.invariant-loop
invariant-loop l = Goes (item_at (name_by l.fn.rule)) (l.end - l.counter) l.items (plains l.rest) (chain (item_at (name_by l.fn.rule)) (plains l.fn.tokens))
