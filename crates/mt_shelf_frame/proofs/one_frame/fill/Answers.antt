use Rattle.std.proofs.Common.{◌≡◌, ◌∙◌, ◌+◌, ap, arith, subst, take, drop}
use Rattle.mt_shelf.specs.State.{State, files_of, after_read}
use Rattle.mt_shelf_frame.specs.Taking.{KnownBytes}
use Rattle.mt_shelf_frame.proofs.TakingLemmas.{read_twice, known_so, known_both, filled}
use Rattle.mt_shelf_frame.proofs.one_frame.fill.Goals as goal

pub loop-done-preserved : goal.loop-done-preserved
loop-done-preserved g c =
    let now = g.F.Shelf.state c.args.shelf.now in
    let path = c.args.path.now in
    let at = c.args.at in
    let done = c.loop-done.done in
    let n = c.in_ok-done.field-0 in
    let more : KnownBytes (files_of now) path (λ bytes. take n (drop done c.read_after.new.into) ≡ take n (drop (at + done) bytes)) =
    subst (λ (s : State). KnownBytes (files_of s) path (λ bytes. take n (drop done c.read_after.new.into) ≡ take n (drop (at + done) bytes))) c.loop-done.invariant.state c.in_ok-done.ensures.known in
    record {
      inside = omega (arith, c.in_ok-done.ensures.bound);
      known = known_so (files_of now) path _ _ (λ bytes p. filled c.loop-done.into c.read_after.new.into bytes at done n c.in_ok-done.ensures.prefix p.0 p.1) (known_both (files_of now) path _ _ c.loop-done.invariant.known more);
      state = c.in_ok-done.ensures.state ∙ ap (λ (s : State). after_read n s) c.loop-done.invariant.state ∙ read_twice now done n;
      faults = grind (arith, c.in_ok-done.ensures.cause, c.loop-done.invariant.faults);
    }
