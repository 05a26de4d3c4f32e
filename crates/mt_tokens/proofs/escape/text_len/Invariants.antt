use Rattle.std.proofs.Common.{◌≡◌, ◌+◌, length}
use Rattle.mt_tokens.specs.Texts.{plus, text_len}
use Rattle.mt_tokens.proofs.escape.text_len.Given as goal

abbrev pub invariant-bytes : goal.invariant-bytes
invariant-bytes l = record {
  so_far : plus l.count (text_len l.rest) ≡ text_len l.bytes;
  within : l.count + length l.rest ≡ length l.bytes;
}

abbrev pub decreases-bytes : goal.decreases-bytes
decreases-bytes l = length l.rest
