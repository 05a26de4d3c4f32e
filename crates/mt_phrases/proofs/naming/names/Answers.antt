use Rattle.std.proofs.Common.{sym}
use Rattle.std.proofs.lemmas.Result.{err_from_is_err_and}
use Rattle.mt_tokens.specs.Tokens.{plains}
use Rattle.mt_phrases.proofs.LoopLemmas.{goes_on, goes_wrong, goes_out, goes_no_more}
use Rattle.mt_phrases.specs.NameRules.{name_by}
use Rattle.mt_phrases.specs.Readers.{one}
use Rattle.mt_phrases.proofs.naming.names.Goals as goal
use Rattle.mt_phrases.proofs.naming.names.Goals.{else-loop-test, then-loop-test+in_default}

pub returns-in_err-next : goal.returns-in_err-next
returns-in_err-next c =
    let e = err_from_is_err_and c.from_residual-in_err-next.result c.from_residual-in_err-next.ensures.1 in
    rw (e.1, e.2) (goes_wrong c.in_err-next.field-0.0 (one (name_by c.args.rule)) c.loop-test.true (sym c.in-Some.ensures) c.in_err-next.ensures c.loop.invariant)

pub loop-preserved : goal.loop-preserved
loop-preserved c =
    rw c.in_ok-push-2.ensures.ok (goes_on (one (name_by c.args.rule)) (c.in_ok-next.next, plains c.in_ok-next.after.now) c.loop-test.true (sym c.in-Some.ensures) c.in_ok-next.ensures c.loop.invariant)

pub returns : goal.returns
returns c =
    elim c.loop-test.branch [
      | else-loop-test w ↦ goes_out (one (name_by c.args.rule)) w.loop-test.false c.loop.invariant
      | then-loop-test+in_default w ↦ goes_no_more (one (name_by c.args.rule)) w.loop-test.true (sym w.in_default.ensures) c.loop.invariant
    ]
