use Rattle.std.proofs.Common.{rules, ◌<◌, ◌≤◌, length, sym}
use Rattle.std.specs.String.{string_bytes}
use Rattle.mt_run.proofs.WordLemmas.{fewer_than_three, more_than_three}
use Rattle.mt_run.proofs.parsed.trial_command.Goals as goal
use Rattle.mt_run.proofs.parsed.trial_command.Goals.{in_default-via-then-operands-lt3, in_default-via-else-operands-lt3+else-operands-lt4}

pub returns-in_default-clause-same : goal.returns-in_default-clause-same
returns-in_default-clause-same c =
    elim c.in_default.branch [
      | in_default-via-then-operands-lt3 w ↦
          let few : length c.args.operands.now < 3 = search rules in
          sym (fewer_than_three string_bytes c.args.operands.now few)
      | in_default-via-else-operands-lt3+else-operands-lt4 w ↦
          let many : 4 ≤ length c.args.operands.now = search rules in
          sym (more_than_three string_bytes c.args.operands.now many)
    ]
