use Rattle.std.proofs.Common.{◌≡◌, ℕ, ◌+◌, List, get_or, arith, subst, sym, Result, IfOk}
use Rattle.std.specs.Fn.{FnReturns}
use Rattle.std.specs.VecDeque.{deque_items}
use Rattle.std.specs.declared.collections.VecDeque.{VecDeque}
use Rattle.std.specs.declared.alloc.Global.{Global}
use Rattle.mt_types.specs.declared.memory.NoMemory.{NoMemory}
use Rattle.mt_round.specs.Turns.{HoldsStride}
use Rattle.mt_round.proofs.tasks.round.Goals as goal

pub gathered-requires-clause-turns : goal.gathered-requires-clause-turns
gathered-requires-clause-turns g c p d h =
    let Part : Type 0 = Result (VecDeque g.row.X.Denot Global) NoMemory in
    let P : ℕ → g.row.X.Denot → Type 0 = λ i x. FnReturns g.F.Fn c.args.work.now (i, tt) x in
    let Done : ℕ → Part → Type 0 = λ j r. IfOk r (λ q. HoldsStride P j c.min-busy.result c.args.tasks (deque_items q)) in
    let post : Done p (get_or c.in_ok-shares.shares.items p d) = (c.in_ok-shares.ensures.each p d h).1.met in
    let from : p ≡ 0 + p = omega arith in
    let Here : List Part → Type 0 = λ l. Done (0 + p) (get_or l p d) in
    subst Here (sym c.from.ensures.0) (subst (λ j. Done j (get_or c.in_ok-shares.shares.items p d)) from post)
