use Rattle.std.specs.Prelude.{◌≡◌, ◌≤◌, ◌-◌, length, take, IfSome}
use Rattle.std.specs.FinMap.{get}
use Rattle.mt_shelf.specs.State.{files_of, after_read}
use Rattle.mt_shelf.proofs.reading.fill_from.Given as goal

abbrev pub invariant-loop-at : goal.invariant-loop-at
invariant-loop-at g l = record {
  known : IfSome (files_of (g.F.Shelf.state l.fn.shelf)) (λ files. IfSome (get files l.path) (λ file. take l.at file ≡ take l.at l.bytes));
  state : g.F.Shelf.state l.shelf ≡ after_read l.at (g.F.Shelf.state l.fn.shelf);
  len : length l.bytes ≡ length l.fn.bytes;
  inside : l.at ≤ length l.bytes;
  faults : g.F.Shelf.faults l.shelf ≡ g.F.Shelf.faults l.fn.shelf;
}

abbrev pub decreases-loop-at : goal.decreases-loop-at
decreases-loop-at g l = length l.bytes - l.at
