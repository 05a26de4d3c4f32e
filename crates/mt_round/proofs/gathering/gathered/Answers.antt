use Rattle.std.proofs.Common.{rules, ◌≡◌, ℕ, ◌<◌, arith, subst, Ok, get_or, length}
use Rattle.std.specs.Fn.{FnReturns}
use Rattle.std.specs.VecDeque.{deque_items}
use Rattle.mt_round.proofs.Turns.{each_more, turn_first, turn_next}
use Rattle.mt_round.proofs.gathering.gathered.Goals as goal

pub unwrap-done-requires : goal.unwrap-done-requires
unwrap-done-requires g c =
    let P : ℕ → g.row.X.Denot → Type 0 = λ i x. FnReturns g.F.Fn c.args._work.now (i, tt) x in
    let some : 0 < c.args.step = omega (arith, c.requires.workers.1, c.loop-test.true) in
    let first : get_or c.loop.shares.items 0 (Ok c.in_ok-share.share) ≡ Ok c.in_ok-share.share = search rules in
    let any = turn_first deque_items P c.loop.counter c.args.step c.args.tasks c.loop.shares.items c.in_ok-share.share c.loop.invariant.2 c.loop-test.true some first in
    let some_left : 0 < length c.in_ok-share.share.items = any.0 in
    search rules

pub loop-preserved : goal.loop-preserved
loop-preserved g c =
    let P : ℕ → g.row.X.Denot → Type 0 = λ i x. FnReturns g.F.Fn c.args._work.now (i, tt) x in
    let some : 0 < c.args.step = omega (arith, c.requires.workers.1, c.loop-test.true) in
    let first : get_or c.loop.shares.items 0 (Ok c.in_ok-share.share) ≡ Ok c.in_ok-share.share = search rules in
    let any = turn_first deque_items P c.loop.counter c.args.step c.args.tasks c.loop.shares.items c.in_ok-share.share c.loop.invariant.2 c.loop-test.true some first in (
      search rules,
      search rules,
      turn_next deque_items P c.loop.counter c.args.step c.args.tasks c.loop.shares.items c.push_back.new.self.items c.in_ok-share.share c.pop_front-in-loop.new.self c.loop.invariant.2 (search rules) some first c.pop_front-in-loop.ensures.rest (search rules),
      each_more P c.loop.all.items c.push.new.self.items c.unwrap-done.result c.loop.counter (search rules) c.in_ok-push.ensures.items c.loop.invariant.3 (subst (λ v. FnReturns g.F.Fn c.args._work.now (c.loop.counter, tt) v) (search rules) (any.1 c.unwrap-done.result)),
    )
