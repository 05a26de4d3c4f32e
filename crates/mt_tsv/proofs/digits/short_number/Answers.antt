use Rattle.std.proofs.Common.{arith}
use Rattle.mt_tsv.proofs.DigitRuns.{room_for_digit}
use Rattle.mt_tsv.proofs.digits.short_number.Goals as goal

pub overflow_mul-number : goal.overflow_mul-number
overflow_mul-number c = omega (arith, room_for_digit c.loop-c.number c.loop-c.c-index _ c.loop-c.invariant.below c.loop-c-test.true c.requires)

pub overflow_add-number : goal.overflow_add-number
overflow_add-number c = omega (arith, room_for_digit c.loop-c.number c.loop-c.c-index _ c.loop-c.invariant.below c.loop-c-test.true c.requires, c.type_inv.text c.loop-c.c-index)
