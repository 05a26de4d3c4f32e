use Rattle.std.proofs.Common.{◌≡◌, drop}
use Rattle.mt_shelf.specs.State.{files_of}
use Rattle.mt_merging.proofs.PresenceLemmas.{Decide}
use Rattle.mt_merging.proofs.places.are_there.Given as goal

-- what is left decides
abbrev pub invariant-loop-part : goal.invariant-loop-part
invariant-loop-part g l = record {
  state : g.F.Shelf.state l.shelf ≡ g.F.Shelf.state l.fn.shelf;
  faults : g.F.Shelf.faults l.shelf ≡ g.F.Shelf.faults l.fn.shelf;
  decide : Decide (files_of (g.F.Shelf.state l.fn.shelf)) (drop l.part-index l.parts) l.parts;
}
