use Rattle.std.proofs.Common.{◌≡◌, ◌++◌, map}
use Rattle.mt_fold.proofs.AnswerLemmas.{states_row}
use Rattle.mt_fold.proofs.answer.rows_of_groups.Given as goal

-- the rows so far, and then those of the groups that are left
abbrev pub invariant-loop-key : goal.invariant-loop-key
invariant-loop-key l = l.rows.items ++ map (states_row l.table l.query) l.key-iterator ≡ map (states_row l.table l.query) l.fn.groups.entries
