use Rattle.std.proofs.Common.{◌≡◌, length}
use Rattle.mt_shelf.specs.State.{files_of}
use Rattle.mt_shelf_frame.specs.Taking.{KnownBytes}
use Rattle.mt_stream.specs.Held.{HoldsItsFrame}
use Rattle.mt_stream_tests.proofs.reading.read_each.Given as goal

abbrev pub invariant-loop-pair : goal.invariant-loop-pair
invariant-loop-pair g l = record {
  size : KnownBytes (files_of (g.F.Shelf.state l.shelf)) l.path (λ bytes. length bytes ≡ l.stream.size);
  held : KnownBytes (files_of (g.F.Shelf.state l.shelf)) l.path (λ bytes. HoldsItsFrame l.stream bytes);
}
