use Rattle.std.proofs.Common.{◌≡◌, true, false, get_or, arith}
use Rattle.std.specs.Ordering.{is_gt}
use Rattle.mt_types.specs.Order.{value_cmp}
use Rattle.mt_match.proofs.EntryLemmas.{turned_read, values_read}
use Rattle.mt_match.proofs.entry.may_two.Goals as goal

pub returns-then-eq : goal.returns-then-eq
returns-then-eq c ty bytes =
    let low = c.index-values-0.result in
    let high = c.index-values-1.result in
    turned_read c.args.cond.now c.args.column ty bytes c.args.values.now low high low high c.requires (grind (arith, c.index-values-0.is)) (grind (arith, c.index-values-1.is))
    (grind (arith, c.compare.ensures, c.eq.ensures, c.if-eq.true))

pub returns : goal.returns
returns c ty bytes =
    let low = c.index-values-0.result in
    let high = c.index-values-1.result in
    let under : is_gt (value_cmp low high) ≡ false = grind (arith, c.compare.ensures, c.eq.ensures, c.if-eq.false) in
    rw c.may_between.ensures (values_read c.args.cond.now c.args.column ty bytes c.args.values.now low high low high c.requires (grind (arith, c.index-values-0.is)) (grind (arith, c.index-values-1.is)) under)
