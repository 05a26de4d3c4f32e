use Rattle.std.proofs.Common.{◌∙◌, sym}
use Rattle.mt_shelf.specs.State.{files_of}
use Rattle.mt_marked_file.proofs.ShelfLemmas.{no_data_shows, marks_fail_so, opened_so}
use Rattle.mt_marked_file.proofs.marked_file.MarkedFile.open.Goals as goal

pub returns-in_default-clause-opens : goal.returns-in_default-clause-opens
returns-in_default-clause-opens g c =
    no_data_shows (files_of (g.F.Shelf.state c.args.shelf.now)) c.args.part.now c.args.listing.now c.args.data_name.now c.args.marks_name.now c.args.per_granule c.requires.known c.file_error.result
    (sym c.size_of.ensures ∙ c.in_default.is) c.file_error.ensures

pub returns-in-Ok-clause-opens : goal.returns-in-Ok-clause-opens
returns-in-Ok-clause-opens g c =
    opened_so (files_of (g.F.Shelf.state c.args.shelf.now)) c.args.part.now c.args.listing.now c.args.data_name.now c.args.marks_name.now c.args.per_granule c.requires.known c.in-Some.size c.in-Ok.marks c.with_path.result
    (sym c.size_of.ensures ∙ c.in-Some.is) c.in-Ok.ensures.reads c.with_path.ensures.gives

pub returns-in-Err-clause-opens : goal.returns-in-Err-clause-opens
returns-in-Err-clause-opens g c =
    marks_fail_so (files_of (g.F.Shelf.state c.args.shelf.now)) c.args.part.now c.args.listing.now c.args.data_name.now c.args.marks_name.now c.args.per_granule c.requires.known c.in-Some.size c.in-Err.error
    (sym c.size_of.ensures ∙ c.in-Some.is) c.in-Err.ensures.reads
