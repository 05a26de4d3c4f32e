use Rattle.std.proofs.Common.{◌+◌, ◌-◌, ◌*◌}
use Rattle.std.specs.Prelude.{codes}
use Rattle.mt_tokens.specs.Tokens.{plains}
use Rattle.mt_tokens.specs.Words.{is_keyword}
use Rattle.mt_cond_syntax.specs.declared.tree.CondText.TheVariants.{And, Or}
use Rattle.mt_cond_syntax.specs.Reading.{unit_at, conjunction_at, disjunction_at}
use Rattle.mt_cond_syntax.proofs.JoinLoop.{GoesJoining}
use Rattle.mt_cond_syntax.proofs.condition.+conditions.Given as goal

abbrev pub decreases-unit : goal.decreases-unit
decreases-unit l = 5 * l.depth

abbrev pub decreases-conjunction : goal.decreases-conjunction
decreases-conjunction l = 5 * l.depth + 1

abbrev pub decreases-disjunction : goal.decreases-disjunction
decreases-disjunction l = 5 * l.depth + 2

abbrev pub decreases-closed : goal.decreases-closed
decreases-closed l = 5 * l.depth + 3

abbrev pub decreases-nested_unit : goal.decreases-nested_unit
decreases-nested_unit l = 5 * l.depth + 4

abbrev pub invariant-conjunction-loop : goal.invariant-conjunction-loop
invariant-conjunction-loop l =
    GoesJoining (is_keyword (codes "AND")) And (unit_at l.depth) (l.end - l.counter) l.left (plains l.rest) (conjunction_at (unit_at l.depth) (plains l.fn.tokens))

abbrev pub invariant-disjunction-loop : goal.invariant-disjunction-loop
invariant-disjunction-loop l =
    GoesJoining (is_keyword (codes "OR")) Or (conjunction_at (unit_at l.depth)) (l.end - l.counter) l.left (plains l.rest) (disjunction_at (unit_at l.depth) (plains l.fn.tokens))
