use Rattle.std.proofs.Common.{rules, ◌≡◌, ℕ, ◌+◌, ◌*◌, arith, subst}
use Rattle.std.specs.Fn.{FnReturns}
use Rattle.std.specs.VecDeque.{deque_len}
use Rattle.mt_round.proofs.Turns.{next_task, each_more, all_done}
use Rattle.mt_round.proofs.tasks.share.Goals as goal

pub loop-task-preserved : goal.loop-task-preserved
loop-task-preserved g c =
    let more : deque_len c.push_back.new.self ≡ deque_len c.loop-task.done + 1 = search rules in
    let P : ℕ → g.row.X.Denot → Type 0 = λ k x. FnReturns g.F.Fn c.args.work.now (c.args.first + k * c.args.step, tt) x in
    let here : FnReturns g.F.Fn c.args.work.now (c.loop-task.task, tt) c.work.result = record { met = c.work.ensures } in (
      next_task c.loop-task.task c.args.first _ _ c.args.step c.loop-task.invariant.0 more,
      λ k d h. each_more P c.loop-task.done.items c.push_back.new.self.items c.work.result (deque_len c.loop-task.done) (search rules) c.in_ok-push_back.ensures.items c.loop-task.invariant.1
          (subst (λ t. FnReturns g.F.Fn c.args.work.now (t, tt) c.work.result) c.loop-task.invariant.0 here) k d (omega (arith, h, more)),
    )

pub returns : goal.returns
returns g c = all_done (λ i x. FnReturns g.F.Fn c.args.work.now (i, tt) x) c.args.first c.args.step c.args.tasks c.loop-task.task (deque_len c.loop-task.done) c.loop-task.done.items (search rules) c.loop-task.invariant.0 (search rules) c.loop-task.invariant.1
