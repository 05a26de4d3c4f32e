use Rattle.std.proofs.Common.{◌-◌}
use Rattle.mt_tokens.specs.Tokens.{plains}
use Rattle.mt_phrases.specs.Readers.{chain}
use Rattle.mt_phrases.proofs.LoopLemmas.{Goes}
use Rattle.mt_syntax.specs.Reading.{setting_at}
use Rattle.mt_syntax.proofs.setting.settings.Given as goal

abbrev pub invariant-loop : goal.invariant-loop
invariant-loop l = Goes setting_at (l.end - l.counter) l.settings (plains l.rest) (chain setting_at (plains l.fn.tokens))
