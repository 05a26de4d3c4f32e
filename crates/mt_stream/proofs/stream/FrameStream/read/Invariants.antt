use Rattle.std.proofs.Common.{◌≡◌, ◌≤◌, ◌-◌}
use Rattle.std.specs.Prelude.{max}
use Rattle.mt_shelf.specs.State.{files_of, ReadsUpTo}
use Rattle.mt_shelf_frame.specs.Taking.{KnownBytes}
use Rattle.mt_stream.specs.Held.{HoldsItsFrame, IsBehind}
use Rattle.mt_stream.specs.Reading.{StaysOnFrames}
use Rattle.mt_stream.proofs.WalkLemmas.{Walked, Paid}
use Rattle.mt_stream.proofs.GoodLemmas.{IsAhead}
use Rattle.mt_stream.proofs.stream.FrameStream.read.Given as goal

abbrev pub invariant-loop-at : goal.invariant-loop-at
invariant-loop-at g l = record {
  size : l.self.size ≡ l.fn.self.size;
  rises : l.fn.begins.offset ≤ l.at;
  climbs : l.fn.self.end ≤ l.self.end;
  within : l.self.end ≤ max l.fn.self.size l.fn.self.end;
  taken : ReadsUpTo (l.self.end - l.fn.self.end) (g.F.Shelf.state l.fn.shelf) (g.F.Shelf.state l.shelf);
  faults : g.F.Shelf.faults l.shelf ≡ g.F.Shelf.faults l.fn.shelf;
  held : KnownBytes (files_of (g.F.Shelf.state l.fn.shelf)) l.path (λ bytes. HoldsItsFrame l.self bytes);
  on_frames : KnownBytes (files_of (g.F.Shelf.state l.fn.shelf)) l.path (λ bytes. StaysOnFrames l.fn.begins bytes l.fn.self l.self);
  behind : IsBehind l.fn.self l.fn.begins.offset → IsBehind l.self l.at;
  ahead : KnownBytes (files_of (g.F.Shelf.state l.fn.shelf)) l.path (λ bytes. IsAhead l.fn.begins l.fn.ends bytes l.at);
  walked : KnownBytes (files_of (g.F.Shelf.state l.fn.shelf)) l.path (λ bytes. Walked l.fn.begins bytes l.at l.skip l.fn.into.items l.into.items);
  paid : KnownBytes (files_of (g.F.Shelf.state l.fn.shelf)) l.path (λ bytes. Paid l.fn.begins l.fn.ends bytes l.fn.self.end l.self.end (g.F.Shelf.state l.fn.shelf) (g.F.Shelf.state l.shelf));
}

abbrev pub decreases-loop-at : goal.decreases-loop-at
decreases-loop-at g l = l.fn.ends.offset - l.at
