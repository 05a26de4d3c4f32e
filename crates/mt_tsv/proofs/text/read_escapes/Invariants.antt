use Rattle.std.proofs.Common.{◌≡◌, length}
use Rattle.mt_tsv.specs.Texts.{text_of}
use Rattle.mt_tsv.proofs.Prefixes.{with_prefix}
use Rattle.mt_tsv.proofs.text.read_escapes.Given as goal

abbrev pub invariant-runs : goal.invariant-runs
invariant-runs l = with_prefix l.text (text_of l.rest) ≡ text_of l.field

abbrev pub decreases-runs : goal.decreases-runs
decreases-runs l = length l.rest
