use Rattle.std.proofs.Common.{◌≡◌, ◌≢◌, ◌<◌, [], drop}
use Rattle.mt_shelf.specs.State.{files_of}
use Rattle.mt_merging.specs.Inputs.{AreInputs, all_rows}
use Rattle.mt_merging.specs.Rooms.{LeaveRoom}
use Rattle.mt_merging.proofs.StepLemmas.{Lead}
use Rattle.mt_merging.proofs.reading.read_inputs.Given as goal

-- what is left leads to the outcome
abbrev pub invariant-loop-part : goal.invariant-loop-part
invariant-loop-part g l = record {
  files : files_of (g.F.Shelf.state l.shelf) ≡ files_of (g.F.Shelf.state l.fn.shelf);
  faults : g.F.Shelf.faults l.shelf ≡ g.F.Shelf.faults l.fn.shelf;
  inputs : AreInputs l.table l.read;
  room : LeaveRoom l.table (all_rows l.read) l.room;
  some : 0 < l.part-index → l.read ≢ [];
  lead : Lead l.table (files_of (g.F.Shelf.state l.fn.shelf)) l.read (drop l.part-index l.parts) l.parts;
}
