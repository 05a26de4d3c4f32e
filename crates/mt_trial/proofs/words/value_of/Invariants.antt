use Rattle.std.proofs.Common.{◌≡◌, drop}
use Rattle.mt_trial.specs.Words.{digits_after}
use Rattle.mt_trial.proofs.words.value_of.Given as goal

abbrev pub invariant-loop-byte : goal.invariant-loop-byte
invariant-loop-byte l = digits_after l.value (drop l.byte-index l.word) ≡ digits_after 0 l.word
