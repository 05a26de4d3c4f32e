use Rattle.mt_shelf.specs.State.{files_of}
use Rattle.mt_marked_file.proofs.ShelfLemmas.{at_hand_shows, read_shows, none_shows, costs_reading, kept_then, fault_after}
use Rattle.mt_marked_file.proofs.TakenLemmas.{reads_none}
use Rattle.mt_marked_file.proofs.opening.read_marks.Goals as goal

pub returns-in-Some-clause-reads : goal.returns-in-Some-clause-reads
returns-in-Some-clause-reads g c =
    at_hand_shows (files_of (g.F.Shelf.state c.args.shelf.now)) c.args.part.now c.args.name.now c.args.per_granule c.args.at_hand.now c.in-Some.bytes.now c.marks_in.result c.requires.at_hand c.in-Some.ensures
    c.marks_in.ensures.reads
