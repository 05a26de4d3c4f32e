use Rattle.std.proofs.Common.{sym}
use Rattle.std.proofs.lemmas.Result.{err_from_is_err_and}
use Rattle.mt_tokens.specs.Tokens.{plains}
use Rattle.mt_phrases.proofs.LoopLemmas.{goes_on, goes_wrong, goes_out, goes_no_more}
use Rattle.mt_element_syntax.specs.Reading.{arg_at, type_at}
use Rattle.mt_element_syntax.proofs.types.+types.Goals as goal
use Rattle.mt_element_syntax.proofs.types.+types.Goals.{args-else-loop-test, args-then-loop-test+in_default}

pub args-returns-in_err-next : goal.args-returns-in_err-next
args-returns-in_err-next t c =
    let e = err_from_is_err_and c.from_residual-in_err-next.result c.from_residual-in_err-next.ensures.1 in
    rw (e.1, e.2) (goes_wrong c.in_err-next.field-0.0 (arg_at (type_at c.args.depth)) c.loop-test.true (sym c.in-Some.ensures) c.in_err-next.ensures c.loop.invariant)

pub args-loop-preserved : goal.args-loop-preserved
args-loop-preserved t c =
    rw c.in_ok-push-2.ensures.ok (goes_on (arg_at (type_at c.args.depth)) (c.in_ok-next.next, plains c.in_ok-next.after.now) c.loop-test.true (sym c.in-Some.ensures) c.in_ok-next.ensures c.loop.invariant)

pub args-returns : goal.args-returns
args-returns t c =
    elim c.loop-test.branch [
      | args-else-loop-test w ↦ goes_out (arg_at (type_at c.args.depth)) w.loop-test.false c.loop.invariant
      | args-then-loop-test+in_default w ↦ goes_no_more (arg_at (type_at c.args.depth)) w.loop-test.true (sym w.in_default.ensures) c.loop.invariant
    ]
