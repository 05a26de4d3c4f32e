use Rattle.std.proofs.Common.{sym, ◌∙◌, arith}
use Rattle.mt_types.proofs.OrderLemmas.{ended_cmp, lists_cmp}
use Rattle.mt_types.proofs.order.+compare.Goals as goal

pub compare_items-returns-then-a-b : goal.compare_items-returns-then-a-b
compare_items-returns-then-a-b t c =
    sym (ended_cmp c.args.a.now c.args.b.now c.loop-i.i (omega arith) (omega arith)) ∙ c.loop-i.invariant

pub compare-returns-in-List-List : goal.compare-returns-in-List-List
compare-returns-in-List-List t c = cc (lists_cmp c.in-List-List.x c.in-List-List.y)
