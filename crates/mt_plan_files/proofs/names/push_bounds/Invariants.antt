use Rattle.mt_files.proofs.OnceLemmas.{Left}
use Rattle.mt_plan_files.proofs.names.push_bounds.Given as goal

-- what is left is to be appended
abbrev pub invariant-loop-index : goal.invariant-loop-index
invariant-loop-index l = Left l.table l.initial.names.items l.names.items l.index
