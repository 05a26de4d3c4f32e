use Rattle.std.proofs.Common.{sym, subst}
use Rattle.mt_meta.proofs.OrderLemmas.{Reaches, reaches_start, reaches_more, reaches_none, reaches_end}
use Rattle.mt_meta.proofs.order.order_of.Goals as goal

pub lines-init : goal.lines-init
lines-init c = λ lines e. subst (λ order. Reaches c.args.columns.now lines order c.args.text.now) (sym c.in_ok-order.ensures) (reaches_start c.args.columns.now lines c.args.text.now e)

pub returns-in_default : goal.returns-in_default
returns-in_default c = λ lines e. reaches_end c.args.columns.now lines c.lines.order c.lines.rest.now (sym c.in_default.ensures.parts) (c.lines.invariant lines e)

pub returns-in_default-index_of : goal.returns-in_default-index_of
returns-in_default-index_of c = λ lines e.
    reaches_none c.args.columns.now lines c.lines.order c.lines.rest.now c.in-Some.line.now c.in-Some.after.now (sym c.in-Some.ensures.parts) c.in_default-index_of.ensures.found (c.lines.invariant lines e)

pub lines-preserved : goal.lines-preserved
lines-preserved c = λ lines e.
    subst (λ order. Reaches c.args.columns.now lines order c.in-Some.after.now) (sym c.in_ok-push.ensures.ok)
    (reaches_more c.args.columns.now lines c.lines.order c.lines.rest.now c.in-Some.line.now c.in-Some.after.now c.in-Some-index_of.column_index (sym c.in-Some.ensures.parts) c.in-Some-index_of.ensures.found (c.lines.invariant lines e))
