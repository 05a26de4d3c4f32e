use Rattle.std.proofs.Common.{◌∙◌, sym}
use Rattle.mt_shelf.specs.State.{files_of}
use Rattle.mt_marked_file.proofs.TakenLemmas.{reads_none}
use Rattle.mt_files.proofs.ListingLemmas.{known_absence, known_size, listed_form}
use Rattle.mt_marked_file.proofs.whole_file.read_whole.Goals as goal

pub read_entry-requires-clause-name : goal.read_entry-requires-clause-name
read_entry-requires-clause-name g c = listed_form c.args.listing.now c.args.name.now c.in-Some.size c.requires.form.names (sym c.size_of.ensures ∙ c.in-Some.is)

pub read_entry-requires-clause-size : goal.read_entry-requires-clause-size
read_entry-requires-clause-size g c =
    known_size c.args.part.now c.args.name.now c.args.listing.now c.in-Some.size (files_of (g.F.Shelf.state c.args.shelf.now)) c.requires.known (sym c.size_of.ensures ∙ c.in-Some.is)

pub returns-in-None-clause-known : goal.returns-in-None-clause-known
returns-in-None-clause-known g c =
    known_absence c.args.part.now c.args.name.now c.args.listing.now (files_of (g.F.Shelf.state c.args.shelf.now)) c.requires.known (sym c.size_of.ensures ∙ c.in-None.is)
