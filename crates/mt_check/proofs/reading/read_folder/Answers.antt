use Rattle.std.proofs.Common.{◌∙◌, refl}
use Rattle.std.proofs.lemmas.Result.{IfOk-weaker}
use Rattle.mt_shelf.specs.State.{files_of}
use Rattle.mt_table.specs.Stored.{projection_at}
use Rattle.mt_defs.specs.Projections.{inner_of}
use Rattle.mt_files.specs.OwnNames.{own_names}
use Rattle.mt_check.proofs.ReadLemmas.{folder_known, folder_names}
use Rattle.mt_check.proofs.reading.read_folder.Goals as goal

pub returns-clause-known : goal.returns-clause-known
returns-clause-known g c =
    let inner = inner_of c.args.table.now (projection_at c.args.table.now c.args.place) in
    IfOk-weaker c.read_named.result _ _
    (folder_known c.args.part.now c.args.prefix.now c.args.prefix.now (own_names inner.columns) c.args.listing.now c.in_ok-compact.compact c.as_slice.result.now (files_of (g.F.Shelf.state c.args.shelf.now)) c.requires.known
    c.in_ok-compact.ensures (c.as_slice.ensures.value ∙ c.in_ok-names.ensures) refl)
    c.read_named.ensures.known

pub returns-clause-names : goal.returns-clause-names
returns-clause-names g c =
    let inner = inner_of c.args.table.now (projection_at c.args.table.now c.args.place) in
    IfOk-weaker c.read_named.result _ _
    (folder_names c.args.prefix.now c.args.prefix.now (own_names inner.columns) c.args.listing.now c.in_ok-compact.compact c.as_slice.result.now
    c.in_ok-compact.ensures (c.as_slice.ensures.value ∙ c.in_ok-names.ensures) refl)
    c.read_named.ensures.names
