use Rattle.std.specs.Prelude.{Ok}
use Rattle.std.proofs.lemmas.Result.{err_from_is_err_and}
use Rattle.mt_shelf.specs.State.{files_of}
use Rattle.mt_files.specs.Listings.{listed_folder, entry_names}
use Rattle.mt_check.proofs.PartLemmas.{as_many, whole_fails, whole_gives}
use Rattle.mt_check.proofs.part_on_shelf.check.Goals as goal

pub check_listed-requires-clause-each : goal.check_listed-requires-clause-each
check_listed-requires-clause-each g c = as_many c.args.table.now (listed_folder c.args.listing.now) (entry_names c.args.listing.now) c.in-Ok.files c.in-Ok.ensures.names.projections

pub returns-in_err-check_listed-in-Ok-clause-gives : goal.returns-in_err-check_listed-in-Ok-clause-gives
returns-in_err-check_listed-in-Ok-clause-gives g c =
    let p = err_from_is_err_and c.from_residual.result c.from_residual.ensures.1 in
    let e = c.in_err-check_listed-in-Ok.field-0.0 in
    rw (p.1)
    (whole_fails c.args.table.now c.args.part.now c.args.listing.now (files_of (g.F.Shelf.state c.args.shelf.now)) c.in-Ok.files e p.0 c.requires.known c.in-Ok.ensures.known p.2 c.in_err-check_listed-in-Ok.ensures.gives)

pub returns-in_ok-check_listed-in-Ok-clause-gives : goal.returns-in_ok-check_listed-in-Ok-clause-gives
returns-in_ok-check_listed-in-Ok-clause-gives g c =
    whole_gives c.args.table.now c.args.part.now c.args.listing.now (files_of (g.F.Shelf.state c.args.shelf.now)) c.in-Ok.files (Ok c.in_ok-check_listed-in-Ok.field-0) c.requires.known c.in-Ok.ensures.known
    c.in_ok-check_listed-in-Ok.ensures.gives
