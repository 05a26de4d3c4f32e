use Rattle.std.proofs.Common.{length}
use Rattle.mt_tokens.specs.Tokens.{plains}
use Rattle.mt_tokens.proofs.TokenRuns.{Reads}
use Rattle.mt_tokens.proofs.reading.read_tokens.Given as goal

abbrev pub invariant-tokens : goal.invariant-tokens
invariant-tokens l = Reads l.text (plains l.tokens) l.rest

abbrev pub decreases-tokens : goal.decreases-tokens
decreases-tokens l = length l.rest
