use Rattle.std.proofs.Common.{◌≡◌}
use Rattle.mt_round.specs.Results.{values_or_first_error}
use Rattle.mt_round.proofs.ResultLemmas.{behind}
use Rattle.mt_round.proofs.results.first_failed.Given as goal

abbrev pub invariant-loop-result : goal.invariant-loop-result
invariant-loop-result g l = values_or_first_error l.fn.results.items ≡ behind l.values (values_or_first_error l.result-iterator.rest.items)
