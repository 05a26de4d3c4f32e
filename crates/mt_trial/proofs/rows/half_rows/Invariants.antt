use Rattle.std.proofs.Common.{◌≡◌}
use Rattle.mt_trial.specs.Rows.{half_rows}
use Rattle.mt_trial.proofs.rows.half_rows.Given as goal

abbrev pub invariant-loop-place : goal.invariant-loop-place
invariant-loop-place l = l.half ≡ half_rows l.number l.place l.remainder
