use Rattle.std.proofs.Common.{sym}
use Rattle.std.specs.Prelude.{codes}
use Rattle.std.proofs.lemmas.Result.{err_from_is_err_and}
use Rattle.mt_tokens.specs.Tokens.{plains}
use Rattle.mt_tokens.specs.Words.{is_keyword}
use Rattle.mt_cond_syntax.specs.declared.tree.CondText.TheVariants.{And, Or}
use Rattle.mt_cond_syntax.specs.Reading.{unit_at, conjunction_at}
use Rattle.mt_cond_syntax.proofs.JoinLoop.{joins_on, joins_wrong, joins_out, joins_no_more}
use Rattle.mt_cond_syntax.proofs.condition.+conditions.Goals as goal
use Rattle.mt_cond_syntax.proofs.condition.+conditions.Goals.{conjunction-else-loop-test, conjunction-then-loop-test+in_default, disjunction-else-loop-test, disjunction-then-loop-test+in_default}

pub conjunction-returns-in_err-right : goal.conjunction-returns-in_err-right
conjunction-returns-in_err-right t c =
    let e = err_from_is_err_and c.from_residual-in_err-right.result c.from_residual-in_err-right.ensures.1 in
    rw (e.1, e.2) (joins_wrong (is_keyword (codes "AND")) And (unit_at c.args.depth) c.in_err-right.field-0.0 c.loop-test.true (sym c.in-Some.ensures) c.in_err-right.ensures c.loop.invariant)

pub conjunction-loop-preserved : goal.conjunction-loop-preserved
conjunction-loop-preserved t c =
    rw c.in_ok-left-2.ensures (joins_on (is_keyword (codes "AND")) And (unit_at c.args.depth) (c.in_ok-right.right, plains c.in_ok-right.after.now) c.loop-test.true (sym c.in-Some.ensures) c.in_ok-right.ensures c.loop.invariant)

pub conjunction-returns : goal.conjunction-returns
conjunction-returns t c =
    elim c.loop-test.branch [
      | conjunction-else-loop-test w ↦ joins_out (is_keyword (codes "AND")) And (unit_at c.args.depth) w.loop-test.false c.loop.invariant
      | conjunction-then-loop-test+in_default w ↦ joins_no_more (is_keyword (codes "AND")) And (unit_at c.args.depth) w.loop-test.true (sym w.in_default.ensures) c.loop.invariant
    ]

pub disjunction-returns-in_err-right : goal.disjunction-returns-in_err-right
disjunction-returns-in_err-right t c =
    let e = err_from_is_err_and c.from_residual-in_err-right.result c.from_residual-in_err-right.ensures.1 in
    rw (e.1, e.2) (joins_wrong (is_keyword (codes "OR")) Or (conjunction_at (unit_at c.args.depth)) c.in_err-right.field-0.0 c.loop-test.true (sym c.in-Some.ensures) c.in_err-right.ensures c.loop.invariant)

pub disjunction-loop-preserved : goal.disjunction-loop-preserved
disjunction-loop-preserved t c =
    rw c.in_ok-left-2.ensures (joins_on (is_keyword (codes "OR")) Or (conjunction_at (unit_at c.args.depth)) (c.in_ok-right.right, plains c.in_ok-right.after.now) c.loop-test.true (sym c.in-Some.ensures) c.in_ok-right.ensures c.loop.invariant)

pub disjunction-returns : goal.disjunction-returns
disjunction-returns t c =
    elim c.loop-test.branch [
      | disjunction-else-loop-test w ↦ joins_out (is_keyword (codes "OR")) Or (conjunction_at (unit_at c.args.depth)) w.loop-test.false c.loop.invariant
      | disjunction-then-loop-test+in_default w ↦ joins_no_more (is_keyword (codes "OR")) Or (conjunction_at (unit_at c.args.depth)) w.loop-test.true (sym w.in_default.ensures) c.loop.invariant
    ]
