use Rattle.mt_sort.proofs.LawLemmas.{stably_sorted, only_sorted}
use Rattle.mt_sort.proofs.law.there_is_one_stable_order.Goals as goal

pub returns-clause-found : goal.returns-clause-found
returns-clause-found c = stably_sorted

pub returns-clause-only : goal.returns-clause-only
returns-clause-only c = only_sorted
