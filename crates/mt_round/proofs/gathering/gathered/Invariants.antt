use Rattle.std.proofs.Common.{◌≡◌, ℕ, ◌<◌, vec_len, get_or}
use Rattle.std.specs.Fn.{FnReturns}
use Rattle.std.specs.VecDeque.{deque_len, deque_items}
use Rattle.mt_round.specs.Turns.{HoldsTurns}
use Rattle.mt_round.proofs.gathering.gathered.Given as goal

abbrev pub invariant-loop : goal.invariant-loop
invariant-loop g l =
    (deque_len l.shares ≡ l.step) × (vec_len l.all ≡ l.counter)
    × HoldsTurns deque_items (λ i x. FnReturns g.F.Fn l._work (i, tt) x) l.counter l.step l.tasks l.shares.items
    × ((i : ℕ) (d : _) → i < l.counter → FnReturns g.F.Fn l._work (i, tt) (get_or l.all.items i d))
