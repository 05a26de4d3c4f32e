use Rattle.std.proofs.Common.{◌≡◌, take, map}
use Rattle.mt_shelf.specs.State.{after_puts}
use Rattle.mt_shelf.specs.Held.{pair_of}
use Rattle.mt_shelf.proofs.writing.put_all.Given as goal

abbrev pub invariant-loop-file : goal.invariant-loop-file
invariant-loop-file g l = record {
  state : g.F.Shelf.state l.shelf ≡ after_puts (map pair_of (take l.file-index l.files)) (g.F.Shelf.state l.fn.shelf);
  faults : g.F.Shelf.faults l.shelf ≡ g.F.Shelf.faults l.fn.shelf;
}
