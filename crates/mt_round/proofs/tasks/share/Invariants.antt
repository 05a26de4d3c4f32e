use Rattle.std.proofs.Common.{◌-◌, ◌≡◌, ℕ, ◌+◌, ◌*◌, ◌<◌, get_or}
use Rattle.std.specs.Fn.{FnReturns}
use Rattle.std.specs.VecDeque.{deque_len}
use Rattle.mt_round.proofs.tasks.share.Given as goal

abbrev pub invariant-loop-task : goal.invariant-loop-task
invariant-loop-task g l =
    (l.task ≡ l.first + deque_len l.done * l.step)
    × ((k : ℕ) (d : _) → k < deque_len l.done → FnReturns g.F.Fn l.work (l.first + k * l.step, tt) (get_or l.done.items k d))

abbrev pub decreases-loop-task : goal.decreases-loop-task
decreases-loop-task g l = l.tasks - l.task
