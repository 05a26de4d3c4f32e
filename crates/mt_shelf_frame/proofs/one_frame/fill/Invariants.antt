use Rattle.std.proofs.Common.{◌≡◌, ◌≤◌, ◌-◌, length, take, drop}
use Rattle.mt_shelf.specs.State.{files_of, after_read}
use Rattle.mt_shelf_frame.specs.Taking.{KnownBytes}
use Rattle.mt_shelf_frame.proofs.one_frame.fill.Given as goal

abbrev pub invariant-loop-done : goal.invariant-loop-done
invariant-loop-done g l = record {
  inside : l.done ≤ length l.into;
  known : KnownBytes (files_of (g.F.Shelf.state l.fn.shelf)) l.path (λ bytes. take l.done l.into ≡ take l.done (drop l.at bytes));
  state : g.F.Shelf.state l.shelf ≡ after_read l.done (g.F.Shelf.state l.fn.shelf);
  faults : g.F.Shelf.faults l.shelf ≡ g.F.Shelf.faults l.fn.shelf;
}

abbrev pub decreases-loop-done : goal.decreases-loop-done
decreases-loop-done g l = length l.into - l.done
