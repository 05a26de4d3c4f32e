use Rattle.std.proofs.Common.{arith, ◌≡◌, ◌+◌, ◌-◌, ◌*◌, get_or}
use Rattle.std.specs.Str.Parse.{digits_value}
use Rattle.std.proofs.lemmas.List.{take_all}
use Rattle.mt_facts.proofs.Digits.{digit_here, with_next_digit, large_with_next}
use Rattle.mt_meta.proofs.digits.magnitude.Goals as goal

pub returns-in_err-checked_mul : goal.returns-in_err-checked_mul
returns-in_err-checked_mul c =
    let no = c.in_err-checked_mul.ensures in
    rw c.from_residual.ensures (λ lt. no (omega (arith, large_with_next c.args.digits.now c.loop-c.c-index c.loop-c.n (c.loop-c.n * 10) c.requires c.loop-c-test.true c.loop-c.invariant.0 (omega arith))))

pub overflow_sub-c : goal.overflow_sub-c
overflow_sub-c c = (digit_here c.args.digits.now c.loop-c.c-index c.requires c.loop-c-test.true).0

pub returns-in_err-n : goal.returns-in_err-n
returns-in_err-n c =
    let no = c.in_err-n.ensures in
    let f = c.in_ok-checked_mul.ensures in
    let big = large_with_next c.args.digits.now c.loop-c.c-index c.loop-c.n (c.loop-c.n * 10 + (get_or c.args.digits.now c.loop-c.c-index 0 - 48)) c.requires c.loop-c-test.true c.loop-c.invariant.0 (omega arith) in
    rw c.from_residual-in_err-n.ensures (λ lt. no (omega (arith, big, f.1)))

pub loop-c-preserved : goal.loop-c-preserved
loop-c-preserved c =
    let m = with_next_digit c.args.digits.now c.loop-c.c-index c.loop-c.n c.requires c.loop-c-test.true c.loop-c.invariant.0 in
    let e = c.in_ok-n.ensures in
    let f = c.in_ok-checked_mul.ensures in
    (omega (arith, e.1, f.1, m), omega (arith, e))

pub returns : goal.returns
returns c =
    let whole : c.loop-c.n ≡ digits_value 10 c.args.digits.now = rw (← take_all c.loop-c.c-index c.args.digits.now (omega arith)) c.loop-c.invariant.0 in
    (omega (arith, whole, c.loop-c.invariant.1), whole)
