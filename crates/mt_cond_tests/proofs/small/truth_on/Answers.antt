use Rattle.std.specs.Prelude.{Some}
use Rattle.mt_exec.proofs.ColumnLemmas.{given_passes_any}
use Rattle.mt_cond_tests.proofs.small.truth_on.Goals as goal

pub truth-requires-clause-shown : goal.truth-requires-clause-shown
truth-requires-clause-shown c = given_passes_any (Some c.args.cond.now)
