use Rattle.std.proofs.Common.{◌-◌}
use Rattle.mt_tokens.specs.Tokens.{plains}
use Rattle.mt_phrases.specs.Readers.{chain}
use Rattle.mt_phrases.proofs.LoopLemmas.{Goes}
use Rattle.mt_element_syntax.specs.Reading.{codec_at}
use Rattle.mt_element_syntax.proofs.column.codec_items.Given as goal

abbrev pub invariant-loop : goal.invariant-loop
invariant-loop l = Goes codec_at (l.end - l.counter) l.codecs (plains l.rest) (chain codec_at (plains l.fn.tokens))
