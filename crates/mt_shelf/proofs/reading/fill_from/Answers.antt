use Rattle.std.proofs.Common.{◌≤◌, ◌∙◌, ap, subst, arith, rules, length, drop, take}
use Rattle.std.specs.Prelude.{IfSome}
use Rattle.std.specs.FinMap.{get}
use Rattle.std.proofs.lemmas.List.{length-drop}
use Rattle.mt_shelf.specs.Files.{IsSliceOf}
use Rattle.mt_shelf.specs.State.{State, files_of, after_read}
use Rattle.mt_shelf.proofs.WholeFiles.{known_more, read_twice}
use Rattle.mt_shelf.proofs.reading.fill_from.Goals as goal

pub loop-at-preserved : goal.loop-at-preserved
loop-at-preserved g c =
    let n = c.in_ok-at.field-0 in
    let at = c.loop-at.at in
    let new = c.read_into.new.bytes in
    let P : State → Type 0 = λ s. IfSome (files_of s) (λ files. IfSome (get files c.args.path.now) (λ file. IsSliceOf file at (take n (drop at new)))) in
    let inside : n ≤ length (drop at new) = omega (arith, length-drop at new, c.in_ok-at.ensures.bound) in
    record {
      known = known_more (files_of (g.F.Shelf.state c.args.shelf.now)) c.args.path.now c.loop-at.bytes new at n c.loop-at.invariant.known c.in_ok-at.ensures.prefix inside (subst P c.loop-at.invariant.state c.in_ok-at.ensures.known);
      state = c.in_ok-at.ensures.state ∙ ap (after_read n) c.loop-at.invariant.state ∙ read_twice at n (g.F.Shelf.state c.args.shelf.now);
      len = search rules;
      inside = search rules;
      faults = search rules;
    }
