use Rattle.std.proofs.Common.{◌≡◌, ◌++◌, length}
use Rattle.mt_tokens.specs.Texts.{unescaped}
use Rattle.mt_tokens.proofs.escape.unescaped.Given as goal

abbrev pub invariant-runs : goal.invariant-runs
invariant-runs l = l.bytes ++ unescaped l.rest ≡ unescaped l.text

abbrev pub decreases-runs : goal.decreases-runs
decreases-runs l = length l.rest
