use Rattle.std.proofs.Common.{arith, ◌+◌, ◌-◌, ◌*◌, get_or}
use Rattle.mt_tsv.proofs.DigitRuns.{large_with_next}
use Rattle.mt_tsv.proofs.digits.number_after.Goals as goal

pub returns-in_err-checked_mul : goal.returns-in_err-checked_mul
returns-in_err-checked_mul c =
    let no = c.in_err-checked_mul.ensures in
    let i = c.loop-c.invariant in
    rw c.from_residual.ensures (λ lt. no (omega (arith, i.ahead, large_with_next c.loop-c.number (c.loop-c.number * 10) c.loop-c.c-index c.args.text.now i.digits c.loop-c-test.true (omega arith))))

pub returns-in_err-number : goal.returns-in_err-number
returns-in_err-number c =
    let no = c.in_err-number.ensures in
    let f = c.in_ok-checked_mul.ensures in
    let i = c.loop-c.invariant in
    rw c.from_residual-in_err-number.ensures (λ lt. no (omega (arith, f.1, i.ahead, large_with_next c.loop-c.number (c.loop-c.number * 10 + (get_or c.args.text.now c.loop-c.c-index 0 - 48)) c.loop-c.c-index c.args.text.now i.digits c.loop-c-test.true (omega arith))))
