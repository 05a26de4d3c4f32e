use Rattle.std.proofs.Common.{sym, ◌∙◌}
use Rattle.std.proofs.lemmas.Result.{err_from_is_err_and}
use Rattle.mt_tokens.specs.Tokens.{plains}
use Rattle.mt_syntax.proofs.ClauseLoop.{clauses_go_on, clause_is_wrong, clause_is_twice, clauses_run_out, no_clause_begins}
use Rattle.mt_syntax.proofs.clauses.read_clauses.Goals as goal
use Rattle.mt_syntax.proofs.clauses.read_clauses.Goals.{else-loop-test, then-loop-test+then-not-begins_with_clause}

pub returns-in_err-next : goal.returns-in_err-next
returns-in_err-next c =
    let e = err_from_is_err_and c.from_residual-in_err-next.result c.from_residual-in_err-next.ensures.1 in
    rw (e.1, e.2) (clause_is_wrong c.in_err-next.field-0.0 c.loop-test.true (sym c.begins_with_clause.ensures ∙ c.if-not-begins_with_clause.false) c.in_err-next.ensures c.loop.invariant)

pub returns-in_err-add : goal.returns-in_err-add
returns-in_err-add c =
    let e = err_from_is_err_and c.from_residual-in_err-add.result c.from_residual-in_err-add.ensures.1 in
    rw (e.1, e.2) (clause_is_twice c.in_err-add.field-0.0 (c.in_ok-next.next, plains c.in_ok-next.after.now) c.loop-test.true (sym c.begins_with_clause.ensures ∙ c.if-not-begins_with_clause.false) c.in_ok-next.ensures c.in_err-add.ensures.err c.loop.invariant)

pub loop-preserved : goal.loop-preserved
loop-preserved c =
    clauses_go_on (c.in_ok-next.next, plains c.in_ok-next.after.now) c.add.new.self c.loop-test.true (sym c.begins_with_clause.ensures ∙ c.if-not-begins_with_clause.false) c.in_ok-next.ensures c.in_ok-add.ensures.ok c.loop.invariant

pub returns : goal.returns
returns c =
    elim c.loop-test.branch [
      | else-loop-test w ↦ clauses_run_out w.loop-test.false c.loop.invariant
      | then-loop-test+then-not-begins_with_clause w ↦ no_clause_begins w.loop-test.true (sym w.begins_with_clause.ensures ∙ w.if-not-begins_with_clause.true) c.loop.invariant
    ]
