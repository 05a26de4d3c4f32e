use Rattle.std.proofs.Common.{arith, ◌≡◌, ◌+◌, ◌-◌, ◌*◌, get_or}
use Rattle.std.specs.Str.Parse.{digits_value}
use Rattle.std.proofs.lemmas.List.{take_all}
use Rattle.mt_facts.proofs.Digits.{digit_here, large_with_next, with_next_digit}
use Rattle.mt_tokens.proofs.digits.number_in.Goals as goal

pub returns-in_err-checked_mul : goal.returns-in_err-checked_mul
returns-in_err-checked_mul c =
    let no = c.in_err-checked_mul.ensures in
    rw c.from_residual.ensures (λ lt. no (omega (arith, large_with_next c.args.digits.now c.loop-c.c-index c.loop-c.number (c.loop-c.number * 10) c.requires c.loop-c-test.true c.loop-c.invariant.so_far (omega arith))))

pub overflow_sub-c : goal.overflow_sub-c
overflow_sub-c c = (digit_here c.args.digits.now c.loop-c.c-index c.requires c.loop-c-test.true).0

pub returns-in_err-number : goal.returns-in_err-number
returns-in_err-number c =
    let no = c.in_err-number.ensures in
    let f = c.in_ok-checked_mul.ensures in
    let big = large_with_next c.args.digits.now c.loop-c.c-index c.loop-c.number (c.loop-c.number * 10 + (get_or c.args.digits.now c.loop-c.c-index 0 - 48)) c.requires c.loop-c-test.true c.loop-c.invariant.so_far (omega arith) in
    rw c.from_residual-in_err-number.ensures (λ lt. no (omega (arith, big, f.1)))

pub loop-c-preserved : goal.loop-c-preserved
loop-c-preserved c =
    let m = with_next_digit c.args.digits.now c.loop-c.c-index c.loop-c.number c.requires c.loop-c-test.true c.loop-c.invariant.so_far in
    let e = c.in_ok-number.ensures in
    let f = c.in_ok-checked_mul.ensures in
    record { so_far = omega (arith, e.1, f.1, m); below = omega (arith, e) }

pub returns : goal.returns
returns c =
    let whole : c.loop-c.number ≡ digits_value 10 c.args.digits.now = rw (← take_all c.loop-c.c-index c.args.digits.now (omega arith)) c.loop-c.invariant.so_far in
    (omega (arith, whole, c.loop-c.invariant.below), whole)
